-- A walk over the records of an encoded register in load order, and what it finds.
use Rattle.std.specs.Prelude.{◌≡◌, ℕ, ◌+◌, ◌%◌, ◌^◌, ◌<◌, ◌≤◌, Bool, true, false, List, [], ◌∷◌, length, slice_index, slice_index_or, refl, Option, Some, None}
use Rattle.std.proofs.Common.{sym, ap, ◌∙◌, subst, arith}
use Rattle.register.specs.Words.{words_in}
use Rattle.register.specs.Module.{Module}
use Rattle.register.specs.Read.Read.{Encoded, modules_of, module_bytes, place_from, export_of, or_else, lookup_in, record_at, record_end, Sorted}
use Rattle.register.specs.Read.Places.{RecordStands, stands_end, sorted_at, RecordsStand, next}
use Rattle.register.specs.Read.Encoded.{modules_stand, module_count}

-- a sum that fits 64 bits is what it is modulo 2^64
pub unwrapped : {r x : ℕ} → r ≡ x % 2 ^ 64 → x < 2 ^ 64 → r ≡ x
unwrapped e h = omega arith

-- k records seen, the next one standing at `place`, and the modules ms left: the first of them, and those after it
pub record WalkStep (records names : List ℕ) (place k : ℕ) (ms : List Module) : Type 0 where
  pub here : Module
  pub rest : List Module
  pub split : ms ≡ here ∷ rest
  pub stands : RecordStands records names place here
  pub standing : RecordsStand records names (place + module_bytes here) rest
  pub count : k + 1 + length rest ≡ slice_index (words_in records) 0

pub turn
    : (records names : List ℕ) (place k : ℕ) (ms : List Module) → RecordsStand records names place ms → k + length ms ≡ slice_index (words_in records) 0
    → k < slice_index (words_in records) 0 → WalkStep records names place k ms
turn records names place k [] s c h = absurd (omega arith)
turn records names place k (m ∷ ms) (next s r) c h =
    record { here = m; rest = ms; split = refl; stands = s; standing = r; count = omega arith }

-- a walk that looks for an answer f: f of the modules left is f of all
pub record Walk {A : Type 0} (f : ℕ → List Module → A) (records names : List ℕ) (place k : ℕ) : Type 0 where
  pub left : List Module
  pub standing : RecordsStand records names place left
  pub count : k + length left ≡ slice_index (words_in records) 0
  pub same : f place left ≡ f 32 (modules_of records names)

module _ {A : Type 0} (f : ℕ → List Module → A) (records names : List ℕ) where
  pub walk_starts : Encoded records names → Walk f records names 32 0
  walk_starts e =
      record {
        left = modules_of records names;
        standing = modules_stand records names e.0 e.1;
        count = omega (arith, module_count records names e.0 e.1);
        same = refl;
      }

  module _ {place k : ℕ} (w : Walk f records names place k) where
    pub walk_ends : slice_index_or (words_in records) 0 0 ≤ k → f place [] ≡ f 32 (modules_of records names)
    walk_ends h = go w.left w.count w.same
      where
        go
            : (ms : List Module) → k + length ms ≡ slice_index (words_in records) 0 → f place ms ≡ f 32 (modules_of records names)
            → f place [] ≡ f 32 (modules_of records names)
        go [] c s = s
        go (m ∷ ms) c s = absurd (omega arith)

    module _ (h : k < slice_index (words_in records) 0) where
      walk_turn : WalkStep records names place k w.left
      walk_turn = turn records names place k w.left w.standing w.count h

      here_same : f place (walk_turn.here ∷ walk_turn.rest) ≡ f 32 (modules_of records names)
      here_same = ap (f place) (sym walk_turn.split) ∙ w.same

      -- the record at `place` ends inside the buffer
      pub walk-fits : record_end (record_at records place) ≤ length records
      walk-fits = let s = walk_turn.stands in omega (arith, stands_end s, s.inside)

      -- its exports are sorted
      pub walk_sorted : Sorted records names place
      walk_sorted = sorted_at walk_turn.stands

      -- the answer is found at the record at `place`
      pub walk_stops
          : {x : A} → ((m : Module) (ms : List Module) → RecordStands records names place m → x ≡ f place (m ∷ ms))
          → x ≡ f 32 (modules_of records names)
      walk_stops g = let t = walk_turn in g t.here t.rest t.stands ∙ here_same

      -- or among the records after it
      pub walk_goes
          : {end : ℕ} → end ≡ record_end (record_at records place)
          → ((m : Module) (ms : List Module) → RecordStands records names place m → f (place + module_bytes m) ms ≡ f place (m ∷ ms))
          → Walk f records names end (k + 1)
      walk_goes {end} d g =
          let t = walk_turn in
          let p : place + module_bytes t.here ≡ end = sym (d ∙ stands_end t.stands) in
          let o : Walk f records names (place + module_bytes t.here) (k + 1) =
          record { left = t.rest; standing = t.standing; count = t.count; same = g t.here t.rest t.stands ∙ here_same } in
          subst (λ q. Walk f records names q (k + 1)) p o

-- steps of the searches

module _ (place : ℕ) (m : Module) (ms : List Module) (test : Module → Bool) where
  pub place_here : test m ≡ true → Some place ≡ place_from place (m ∷ ms) test
  unfolding place_from
  place_here e = rw e

  pub place_on : test m ≡ false → place_from (place + module_bytes m) ms test ≡ place_from place (m ∷ ms) test
  unfolding place_from
  place_on e = rw e

pub place_none : (place : ℕ) (test : Module → Bool) → None ≡ place_from place [] test
unfolding place_from
place_none place test = refl

or_else_lem : (s t : Option ℕ) {a : ℕ} → s ≡ Some a → Some a ≡ or_else s t
unfolding or_else
or_else_lem (Some a) t e = sym e
or_else_lem None t e = let z : ◌≡◌ {A = ℕ} 0 1 = cc in absurd (omega arith)

or-next : (s t : Option ℕ) → s ≡ None → t ≡ or_else s t
unfolding or_else
or-next (Some a) t e = let z : ◌≡◌ {A = ℕ} 0 1 = cc in absurd (omega arith)
or-next None t e = refl

module _ (m : Module) (ms : List Module) (name : List ℕ) where
  pub lookup_here : {a : ℕ} → m.auto ≡ true → export_of m name ≡ Some a → Some a ≡ lookup_in (m ∷ ms) name
  unfolding lookup_in export_of
  lookup_here p e = rw p (or_else_lem (export_of m name) (lookup_in ms name) e)

  pub lookup_on : m.auto ≡ true → export_of m name ≡ None → lookup_in ms name ≡ lookup_in (m ∷ ms) name
  unfolding lookup_in export_of
  lookup_on p e = rw p (or-next (export_of m name) (lookup_in ms name) e)

  pub lookup_past : m.auto ≡ false → lookup_in ms name ≡ lookup_in (m ∷ ms) name
  unfolding lookup_in
  lookup_past p = rw p

pub lookup_none : (name : List ℕ) → None ≡ lookup_in [] name
unfolding lookup_in
lookup_none name = refl
