-- The exports of a new module to all but the last.
use Rattle.std.proofs.Common.{◌≡◌, ℕ, ◌+◌, ◌-◌, ◌<◌, ◌≤◌, List, [], ◌∷◌, length, get_or, sym, refl, ap, ◌∙◌, subst, arith}
use Rattle.window.specs.Trace.{State, run_t}
use Rattle.window.specs.TraceRuns.{seq}
use Rattle.register.specs.Words.{words_in}
use Rattle.register.specs.Module.{Module}
use Rattle.register.specs.declared.read.Record.{Record}
use Rattle.register.specs.Read.Read.{module_bytes, record_at, record_end}
use Rattle.linker_spec.specs.Imports.{serve, apply_exports_to_loaded}
use Rattle.linker.specs.Imports.Modules.{but_last}
use Rattle.linker.specs.Sources.Walks.{RecordWalk, record_walk_goes, its_base}

module _ (at : ℕ) (new : Module) where
  abbrev pub serving : ℕ → List Module → State → Unit {0} × State
  serving p ms s = run_t at (apply_exports_to_loaded new (but_last ms)) s

  serving-one : (p : ℕ) (ms : List Module) (s : State) → length ms ≤ 1 → serving p ms s ≡ (tt, s)
  unfolding but_last apply_exports_to_loaded run_t
  serving-one p [] s h = refl
  serving-one p (m ∷ []) s h = refl
  serving-one p (m ∷ n ∷ ms) s h = absurd (omega arith)

  serving-more
      : (p q : ℕ) (m : Module) (ms : List Module) (s v : State) → 0 < length ms → v ≡ (run_t at (serve new m.base) s).1
      → serving q ms v ≡ serving p (m ∷ ms) s
  unfolding but_last apply_exports_to_loaded
  serving-more p q m [] s v h e = absurd (omega arith)
  serving-more p q m (n ∷ ms) s v h e = seq at (serve new m.base) s (apply_exports_to_loaded new (but_last (n ∷ ms))) e

  module _ (records names : List ℕ) (place seen : ℕ) (s : State) {end : Unit {0} × State} (walk : RecordWalk serving records names place seen s end) where
    pub served-all : get_or (words_in records) 0 0 ≤ seen + 1 → s ≡ end.1
    served-all h =
        ap (λ (x : Unit {0} × State). x.1)
        (sym (serving-one place walk.left s (let c = walk.count in omega arith)) ∙ walk.same)

    served-next
        : {r : Record} {next : ℕ} {v : State} → seen + 1 < get_or (words_in records) 0 0 → r ≡ record_at records place → next ≡ record_end r
        → v ≡ (run_t at (serve new r.base) s).1 → RecordWalk serving records names next (seen + 1) v end
    served-next {r} {next} {v} h er d e =
        record_walk_goes serving records names place seen s walk (omega arith) er d
        (λ m ms t c. serving-more place (place + module_bytes m) m ms s v (omega arith)
        (e ∙ ap (λ b. (run_t at (serve new b) s).1) (its_base er t)))

  -- as code counts, from 1 on
  pub served-turn
      : (records names : List ℕ) (place k : ℕ) (s : State) {end : Unit {0} × State} → RecordWalk serving records names place (k - 1) s end → 1 ≤ k
      → k < get_or (words_in records) 0 0 → {r : Record} {next : ℕ} {v : State} → r ≡ record_at records place → next ≡ record_end r
      → v ≡ (run_t at (serve new r.base) s).1 → RecordWalk serving records names next (k + 1 - 1) v end
  served-turn records names place k s {end} walk l h {next = next} {v = v} er d e =
      let z : k - 1 + 1 ≡ k + 1 - 1 = omega arith in
      subst (λ n. RecordWalk serving records names next n v end) z (served-next records names place (k - 1) s walk (omega arith) er d e)
