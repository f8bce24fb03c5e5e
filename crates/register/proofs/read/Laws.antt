-- From the code's parts and words to the definitions.
use Rattle.std.specs.Prelude.{if◌then◌else◌, Option, Some, None}
use Rattle.std.proofs.Common.{◌≡◌, ℕ, zero, suc, ◌+◌, ◌-◌, ◌*◌, ◌/◌, ◌<◌, ◌≤◌, Bool, true, false, List, [], ◌∷◌, length, get_or, take, drop, sym, refl, ap, ◌∙◌, arith, drop_of_length-le, le-ltb, lt-ltb}
use lib.Seq.{take-nil}
use Rattle.register.specs.Words.{part, same, words_in, length-words, part-words}
use Rattle.register.specs.Module.{find_from, find_export, ascending}
use Rattle.register.specs.Decode.{export_at, exports_from, exports_in, read_module, slot_length, slot_name}
use Rattle.register.proofs.Laws.{rest_of}
use Rattle.register.specs.Read.Read.{address_of, export_of, entry_of, module_at, Sorted}

-- what `&l[n..]` is for n the length
pub rest_none : (l : List ℕ) (place : ℕ) → length l < place → take (length l - length l) (drop (length l) l) ≡ drop place l
rest_none l place h =
    let g : length l ≤ place = omega arith in
    let e : length l ≤ length l = omega arith in
    rest_of l (length l) ∙ drop_of_length-le l e ∙ sym (drop_of_length-le l g)

-- a slot of less than two bytes has no name
pub slot-short : (s : List ℕ) → length s < 2 → drop 2 s ≡ slot_name s
unfolding slot_name part
slot-short s h =
    let g : length s ≤ 2 = omega arith in
    let e : drop 2 s ≡ [] = drop_of_length-le s g in
    rw (e, take-nil)

pub slot_is : (s : List ℕ) → part s 2 (get_or s 0 0 + 256 * get_or s 1 0) ≡ slot_name s
unfolding slot_name slot_length
slot_is s = refl

-- number i of some words

pub entry_none : (l : List ℕ) (i : ℕ) → length l / 4 ≤ i → None ≡ entry_of (words_in l) i
unfolding entry_of
entry_none l i h = rw (length-words l, le-ltb i (length l / 4) h)

pub entry_at_lem : (l : List ℕ) (i : ℕ) {a : ℕ} → i < length l / 4 → a ≡ get_or (words_in l) i 0 → Some a ≡ entry_of (words_in l) i
unfolding entry_of
entry_at_lem l i h e = rw (length-words l, lt-ltb i (length l / 4) h, e)

-- the exports of a record, by name

-- an export that is found: its number, counted from k, and its address
record Hit (n : ℕ) (ws names : List ℕ) (k i : ℕ) (name : List ℕ) : Type 0 where
  inside : i < k + n
  address : address_of (exports_from n ws names k) name ≡ Some (get_or ws (3 * i + 2) 0)

hit : (n : ℕ) (ws names : List ℕ) (k i : ℕ) (name : List ℕ) → find_from k (exports_from n ws names k) name ≡ Some i → Hit n ws names k i name
unfolding exports_from find_from address_of export_at
hit zero ws names k i name e = let z : ◌≡◌ {A = ℕ} 0 1 = cc in absurd (omega arith)
hit (suc n) ws names k i name e = go (same name (export_at ws names k).name) refl e (hit n ws names (k + 1) i name)
  where
    go
        : (b : Bool) → same name (export_at ws names k).name ≡ b
        → (if b then Some k else find_from (k + 1) (exports_from n ws names (k + 1)) name) ≡ Some i
        → (find_from (k + 1) (exports_from n ws names (k + 1)) name ≡ Some i → Hit n ws names (k + 1) i name) → Hit (suc n) ws names k i name
    go true p f ih = let q : k ≡ i = cc in record { inside = omega arith; address = rw (p, q) }
    go false p f ih = let r = ih f in record { inside = omega (arith, r.inside); address = rw p r.address }

missed
    : (n : ℕ) (ws names : List ℕ) (k : ℕ) (name : List ℕ) → find_from k (exports_from n ws names k) name ≡ None
    → address_of (exports_from n ws names k) name ≡ None
unfolding exports_from find_from address_of export_at
missed zero ws names k name e = refl
missed (suc n) ws names k name e = go (same name (export_at ws names k).name) refl e (missed n ws names (k + 1) name)
  where
    go
        : (b : Bool) → same name (export_at ws names k).name ≡ b
        → (if b then Some k else find_from (k + 1) (exports_from n ws names (k + 1)) name) ≡ None
        → (find_from (k + 1) (exports_from n ws names (k + 1)) name ≡ None → address_of (exports_from n ws names (k + 1)) name ≡ None)
        → address_of (export_at ws names k ∷ exports_from n ws names (k + 1)) name ≡ None
    go true p f ih = let z : ◌≡◌ {A = ℕ} 0 1 = cc in absurd (omega arith)
    go false p f ih = rw p (ih f)

pub export_inside
    : (list names name : List ℕ) {k : ℕ} → find_export (exports_in (words_in list) names) name ≡ Some k → 3 * k + 3 ≤ length list
unfolding find_export exports_in
export_inside list names name {k} e =
    let h = hit (length (words_in list) / 3) (words_in list) names 0 k name e in
    omega (arith, h.inside, length-words list)

-- the lists of the record at `place`: `rest` is what follows the place

module _ (records rest : List ℕ) (place : ℕ) {s : ℕ} (er : rest ≡ drop place records) (es : s ≡ get_or (words_in rest) 5 0) where
  pub segment-entry
      : (names list : List ℕ) (i : ℕ) {x : Option ℕ} → list ≡ part rest 32 (4 * s) → x ≡ entry_of (words_in list) i
      → x ≡ entry_of (module_at records names place).segments i
  unfolding module_at read_module
  segment-entry names list i el e =
      e ∙ ap (λ l. entry_of l i) (ap words_in el ∙ part-words rest 8 s ∙ rw (es, er))

  module _ {n : ℕ} (en : n ≡ get_or (words_in rest) 6 0) where
    pub indexed_entry_lem
        : (names list : List ℕ) (i : ℕ) {x : Option ℕ} {c : ℕ} → c ≡ get_or (words_in rest) 7 0 → list ≡ part rest (4 * (8 + (s + 3 * n))) (4 * c)
        → x ≡ entry_of (words_in list) i → x ≡ entry_of (module_at records names place).indexed i
    unfolding module_at read_module
    indexed_entry_lem names list i {c = c} ec el e =
        e ∙ ap (λ l. entry_of l i) (ap words_in el ∙ part-words rest (8 + (s + 3 * n)) c ∙ rw (es, en, ec, er))

    module _ (list names : List ℕ) (el : list ≡ part rest (4 * (8 + s)) (12 * n)) where
      named_are : exports_in (words_in list) names ≡ (module_at records names place).named
      unfolding module_at read_module
      named_are =
          let e : 12 * n ≡ 4 * (3 * n) = omega arith in
          rw (el, e, part-words rest (8 + s) (3 * n), es, en, er)

      pub export_sorted : Sorted records names place → ascending (exports_in (words_in list) names) ≡ true
      unfolding Sorted
      export_sorted h = rw named_are h

      pub export_none
          : (name : List ℕ) → find_export (exports_in (words_in list) names) name ≡ None → None ≡ export_of (module_at records names place) name
      unfolding export_of find_export exports_in
      export_none name e = rw (← named_are) (sym (missed (length (words_in list) / 3) (words_in list) names 0 name e))

      pub export_at_lem
          : (name : List ℕ) {k a : ℕ} → find_export (exports_in (words_in list) names) name ≡ Some k → a ≡ get_or (words_in list) (3 * k + 2) 0
          → Some a ≡ export_of (module_at records names place) name
      unfolding export_of find_export exports_in
      export_at_lem name {k} e w =
          rw (← named_are, w) (sym (hit (length (words_in list) / 3) (words_in list) names 0 k name e).address)
