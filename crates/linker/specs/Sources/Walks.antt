-- Walks over the records that change window and trace at each: the modules left, and what is still to do with them.
use Rattle.std.specs.Prelude.{◌≡◌, ℕ, ◌+◌, ◌<◌, ◌≤◌, List, [], ◌∷◌, length, slice_index, slice_index_or, refl}
use Rattle.std.proofs.Common.{sym, ap, ◌∙◌, subst, arith}
use Rattle.window.specs.Trace.{State}
use Rattle.register.specs.Words.{part, words_in}
use Rattle.register.specs.Module.{Module}
use Rattle.register.specs.Decode.{read_module}
use Rattle.register.specs.declared.read.Record.{Record}
use Rattle.register.specs.Read.Read.{Encoded, modules_of, module_bytes, module_at, record_at, record_end}
use Rattle.register.specs.Read.Places.{RecordStands, stands_end, RecordsStand}
use Rattle.register.specs.Read.Encoded.{modules_stand, module_count}
use Rattle.register.specs.Read.Walk.{WalkStep, turn}

-- `seen` records are done, the next one stands at `place`; g of the modules left is `end`
pub record RecordWalk {R : Type 0} (g : ℕ → List Module → State → R) (records names : List ℕ) (place seen : ℕ) (s : State) (end : R) : Type 0 where
  pub left : List Module
  pub standing : RecordsStand records names place left
  pub count : seen + length left ≡ slice_index (words_in records) 0
  pub same : g place left s ≡ end

module _ {R : Type 0} (g : ℕ → List Module → State → R) (records names : List ℕ) where
  pub record_walk_starts : (s : State) → Encoded records names → RecordWalk g records names 32 0 s (g 32 (modules_of records names) s)
  record_walk_starts s e =
      record {
        left = modules_of records names;
        standing = modules_stand records names e.0 e.1;
        count = omega (arith, module_count records names e.0 e.1);
        same = refl;
      }

  module _ (place seen : ℕ) (s : State) {end : R} (walk : RecordWalk g records names place seen s end) where
    pub record_walk_ends : slice_index_or (words_in records) 0 0 ≤ seen → g place [] s ≡ end
    record_walk_ends h = go walk.left walk.count walk.same
      where
        go : (ms : List Module) → seen + length ms ≡ slice_index (words_in records) 0 → g place ms s ≡ end → g place [] s ≡ end
        go [] c e = e
        go (m ∷ ms) c e = absurd (omega arith)

    module _ (h : seen < slice_index (words_in records) 0) {r : Record} (er : r ≡ record_at records place) where
      here : WalkStep records names place seen walk.left
      here = turn records names place seen walk.left walk.standing walk.count h

      pub record_walk-fits : record_end r ≤ length records
      record_walk-fits = let t = here.stands in rw er (omega (arith, stands_end t, t.inside))

      pub record_walk_goes
          : {next : ℕ} {v : State} → next ≡ record_end r
          → ((m : Module) (ms : List Module) → RecordStands records names place m → seen + 1 + length ms ≡ slice_index (words_in records) 0
          → g (place + module_bytes m) ms v ≡ g place (m ∷ ms) s)
          → RecordWalk g records names next (seen + 1) v end
      record_walk_goes {next} {v} d k =
          let t = here in
          let p : place + module_bytes t.here ≡ next = sym (d ∙ ap record_end er ∙ stands_end t.stands) in
          let o : RecordWalk g records names (place + module_bytes t.here) (seen + 1) v end =
          record {
            left = t.rest;
            standing = t.standing;
            count = t.count;
            same = k t.here t.rest t.stands t.count ∙ ap (λ ms. g place ms s) (sym t.split) ∙ walk.same;
          } in
          subst (λ q. RecordWalk g records names q (seen + 1) v end) p o

pub its_base
    : {records names : List ℕ} {place : ℕ} {m : Module} {r : Record} → r ≡ record_at records place → RecordStands records names place m
    → r.base ≡ m.base
its_base e s = ap (λ (x : Record). x.base) (e ∙ s.words)

-- a record's own name
pub own_name_lem
    : (records names : List ℕ) (place : ℕ) {r : Record} {n : List ℕ} → r ≡ record_at records place
    → n ≡ part names r.name_offset r.name_length
    → n ≡ (module_at records names place).name
unfolding record_at module_at read_module
own_name_lem records names place e f = rw (f, e)
