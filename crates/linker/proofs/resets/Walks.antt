-- The resets of all modules but one.
use Rattle.std.specs.Prelude.{if◌then◌else◌}
use Rattle.std.proofs.Common.{◌≡◌, ℕ, ◌+◌, ◌<◌, ◌≤◌, Bool, true, false, eqb, List, ◌∷◌, get_or, sym, refl, ap, ◌∙◌, eq-eqb, ne_eqb}
use Rattle.window.specs.Access.{Prog, ret, ◌>>=◌}
use Rattle.window.specs.Trace.{State, run_t, run_t_bind}
use Rattle.register.specs.Words.{words_in}
use Rattle.register.specs.Module.{Module}
use Rattle.register.specs.Encode.{flag}
use Rattle.register.specs.declared.read.Record.{Record}
use Rattle.register.specs.Read.Read.{module_bytes, record_at, record_end}
use Rattle.register.specs.Read.Places.{RecordStands}
use Rattle.linker_spec.specs.Resets.{reset_imports, reset_importers}
use Rattle.linker.specs.Sources.Walks.{RecordWalk, record_walk_ends, record_walk_goes}
use Rattle.linker.specs.Resets.Modules.{other_than, reset_importer}

auto_flag : (b : Bool) → eqb (flag b) 1 ≡ b
unfolding flag
auto_flag true = refl
auto_flag false = refl

module _ (at : ℕ) (gone : Module) (place : ℕ) where
  abbrev pub resetting : ℕ → List Module → State → Unit {0} × State
  resetting p ms s = run_t at (reset_importers gone (other_than place p ms)) s

  resetting-more
      : (p q : ℕ) (m : Module) (ms : List Module) (s v : State) → q ≡ p + module_bytes m
      → v ≡ (run_t at (if eqb p place then ret tt else (if m.auto then reset_imports gone m.base else ret tt)) s).1
      → resetting q ms v ≡ resetting p (m ∷ ms) s
  unfolding other_than reset_importers run_t ◌>>=◌
  resetting-more p q m ms s v eq e = rw eq (go (eqb p place) e)
    where
      rest : List Module
      rest = other_than place (p + module_bytes m) ms

      one : Prog (Unit {0})
      one = if m.auto then reset_imports gone m.base else ret tt

      go
          : (t : Bool) → v ≡ (run_t at (if t then ret tt else one) s).1
          → run_t at (reset_importers gone rest) v ≡ run_t at (reset_importers gone (if t then rest else m ∷ rest)) s
      go true e = rw e (refl)
      go false e = rw e (sym (run_t_bind at one (λ _. reset_importers gone rest) s))

  module _ (records names : List ℕ) (p seen : ℕ) (s : State) {end : Unit {0} × State} (walk : RecordWalk resetting records names p seen s end) where
    pub reset-all : get_or (words_in records) 0 0 ≤ seen → s ≡ end.1
    unfolding other_than reset_importers run_t
    reset-all h = ap (λ (x : Unit {0} × State). x.1) (record_walk_ends resetting records names p seen s walk h)

    importer_is
        : (m : Module) {r : Record} → r ≡ record_at records p → RecordStands records names p m
        → reset_importer gone place r ≡ (if eqb p place then ret tt else (if m.auto then reset_imports gone m.base else ret tt))
    unfolding reset_importer
    importer_is m er t = rw (er ∙ t.words, auto_flag m.auto)

    pub reset-next
        : {r : Record} {next : ℕ} {v : State} → seen < get_or (words_in records) 0 0 → r ≡ record_at records p → next ≡ record_end r
        → v ≡ (run_t at (reset_importer gone place r) s).1 → RecordWalk resetting records names next (seen + 1) v end
    reset-next {r} {next} {v} h er d e =
        record_walk_goes resetting records names p seen s walk h er d
        (λ m ms t c. resetting-more p (p + module_bytes m) m ms s v refl (e ∙ ap (λ x. (run_t at x s).1) (importer_is m er t)))

-- one turn's two tests
module _ (at place : ℕ) (gone : Module) (r : Record) (s : State) where
  pub itself : r.place ≡ place → s ≡ (run_t at (reset_importer gone place r) s).1
  unfolding reset_importer run_t
  itself e = rw (eq-eqb r.place place e, run_t)

  module _ (n : r.place ≡ place → ⊥) where
    pub unlinked : (r.auto_link ≡ 1 → ⊥) → s ≡ (run_t at (reset_importer gone place r) s).1
    unfolding reset_importer run_t
    unlinked e = rw (ne_eqb r.place place n, ne_eqb r.auto_link 1 e, run_t)

    pub linked : {v : State} → r.auto_link ≡ 1 → v ≡ (run_t at (reset_imports gone r.base) s).1 → v ≡ (run_t at (reset_importer gone place r) s).1
    unfolding reset_importer
    linked e h = rw (ne_eqb r.place place n, eq-eqb r.auto_link 1 e) h
