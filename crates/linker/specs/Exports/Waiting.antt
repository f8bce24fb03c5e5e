-- Exports that wait in the free bytes after a record until all are known: two words each, where the name stands in the image, and the
-- export's address.
use Rattle.std.specs.declared.cmp.Ordering.{Ordering}
use Rattle.std.specs.Prelude.{◌≡◌, ℕ, zero, suc, ◌+◌, ◌-◌, ◌*◌, ◌/◌, ◌^◌, ◌<◌, ◌≤◌, true, List, [], ◌∷◌, ◌++◌, length, take, drop, slice_index, slice_index_or, slice_set, Result, Ok, Err}
use Rattle.std.proofs.Math.Path.{refl, sym, ap, subst}
use Rattle.std.proofs.Common.{◌∙◌, take-append-drop, drop_at}
use native.Mathlib.Omega.{arith}
use Rattle.std.proofs.Math.ListN.{length-append, length-drop, length-set}
use Rattle.std.proofs.Math.Seq.{sets, length-take-le, take_all}
use Rattle.window.specs.Access.{run}
use Rattle.window.specs.Name.{name_at, order_of}
use Rattle.window.specs.Word.{set_word_in}
use Rattle.register.specs.Words.{part, flat, words_in}
use Rattle.register.specs.Buffers.{Below, length-flat}
use Rattle.register.specs.Module.{Export, ascending}
use Rattle.register.specs.Encode.{export_words, export_names}
use Rattle.register.specs.Change.{put_named}
use Rattle.register.specs.Order.{name_in, position_of, put-at, put_before}
use Rattle.register.specs.Append.Sets.{sets_append, sets_over, flat_append, change-laid, words_of}
use Rattle.register.specs.Append.Laid.{part_sets, below_append, below_one, below_three}
use Rattle.register.specs.Append.Held.{below_set}

pub record Waiting : Type 0 where
  pub place : ℕ
  pub address : ℕ

abbrev a_waiting : Waiting
a_waiting = record { place = 0; address = 0 }

-- a position among n
unfoldable pub Inside : Result ℕ ℕ → ℕ → Type 0
Inside (Ok k) n = k < n
Inside (Err k) n = k ≤ n

below_front : (a b : List ℕ) (n : ℕ) → Below n (a ++ b) → 0 < n → Below n a
below_front [] b n h z k = omega arith
below_front (x ∷ a) b n h z zero = h 0
below_front (x ∷ a) b n h z (suc k) = below_front a b n (λ j. h (suc j)) z k

pub below_back : (a b : List ℕ) (n : ℕ) → Below n (a ++ b) → Below n b
below_back [] b n h = h
below_back (x ∷ a) b n h = below_back a b n (λ j. h (suc j))

module _ (at : ℕ) (w : List ℕ) where
  abbrev pub name_for : ℕ → List ℕ
  name_for place = (run at (name_at place) w).0

  abbrev pub export_for : Waiting → Export
  export_for x = record { name = name_for x.place; address = x.address }

  unfoldable pub exports_for : List Waiting → List Export
  exports_for [] = []
  exports_for (x ∷ xs) = export_for x ∷ exports_for xs

  unfoldable pub waiting_words : List Waiting → List ℕ
  waiting_words [] = []
  waiting_words (x ∷ xs) = x.place ∷ x.address ∷ waiting_words xs

  -- lengths

  pub length_exports : (xs : List Waiting) → length (exports_for xs) ≡ length xs
  unfolding exports_for
  length_exports [] = refl
  length_exports (x ∷ xs) = ap suc (length_exports xs)

  pub length-waiting : (xs : List Waiting) → length (waiting_words xs) ≡ 2 * length xs
  unfolding waiting_words
  length-waiting [] = refl
  length-waiting (x ∷ xs) = let h = length-waiting xs in omega arith

  pub length-bytes : (xs : List Waiting) → length (flat (waiting_words xs)) ≡ 8 * length xs
  length-bytes xs = length-flat (waiting_words xs) ∙ omega (arith, length-waiting xs)

  -- where the name of number k stands, and the name

  pub place_of : (xs : List Waiting) (k : ℕ) → k < length xs → slice_index (waiting_words xs) (2 * k) ≡ (slice_index_or xs k a_waiting).place
  unfolding waiting_words
  place_of [] k h = absurd (omega arith)
  place_of (x ∷ xs) zero h = refl
  place_of (x ∷ xs) (suc k) h =
      let e : 2 * suc k ≡ suc (suc (2 * k)) = omega arith in
      rw e (place_of xs k (omega arith))

  pub name_of : (xs : List Waiting) (k : ℕ) → k < length xs → name_in (exports_for xs) k ≡ name_for (slice_index_or xs k a_waiting).place
  unfolding exports_for
  name_of [] k h = absurd (omega arith)
  name_of (x ∷ xs) zero h = refl
  name_of (x ∷ xs) (suc k) h = name_of xs k (omega arith)

  -- these bytes are so many waiting exports in name order
  pub record Waits (xs : List Waiting) (bytes : List ℕ) : Type 0 where
    pub are : bytes ≡ flat (waiting_words xs)
    pub small : Below (2 ^ 32) (waiting_words xs)
    pub ascends : ascending (exports_for xs) ≡ true

  module _ {xs : List Waiting} {bytes : List ℕ} (h : Waits xs bytes) where
    pub waits-count : length bytes / 8 ≡ length xs
    waits-count = let e = ap length h.are ∙ length-bytes xs in omega arith

    waits-words : words_in bytes ≡ waiting_words xs
    waits-words = ap words_in h.are ∙ words_of (waiting_words xs) h.small

    -- a name and that of number k, compared where it stands
    pub waits_order
        : (k : ℕ) (name : List ℕ) {place : ℕ} {o : Ordering} → k < length xs → place ≡ slice_index (words_in bytes) (2 * k)
        → o ≡ order_of name (name_for place) → o ≡ order_of name (name_in (exports_for xs) k)
    waits_order k name {place} l ep f =
        let p : place ≡ (slice_index_or xs k a_waiting).place = ep ∙ ap (λ t. slice_index t (2 * k)) waits-words ∙ place_of xs k l in
        f ∙ ap (λ t. order_of name (name_for t)) p ∙ ap (order_of name) (sym (name_of xs k l))

  -- an address replaced

  readdressed : List Waiting → ℕ → ℕ → List Waiting
  readdressed xs k a = slice_set xs k (record { place = (slice_index_or xs k a_waiting).place; address = a })

  set_words : (xs : List Waiting) (k a : ℕ) → k < length xs → slice_set (waiting_words xs) (2 * k + 1) a ≡ waiting_words (readdressed xs k a)
  unfolding waiting_words readdressed
  set_words [] k a h = absurd (omega arith)
  set_words (x ∷ xs) zero a h = refl
  set_words (x ∷ xs) (suc k) a h =
      let e : 2 * suc k + 1 ≡ suc (suc (2 * k + 1)) = omega arith in
      rw e (ap (λ t. x.place ∷ x.address ∷ t) (set_words xs k a (omega arith)))

  set_exports
      : (xs : List Waiting) (k a : ℕ) → k < length xs
      → exports_for (readdressed xs k a) ≡ slice_set (exports_for xs) k (record { name = name_in (exports_for xs) k; address = a })
  unfolding exports_for readdressed
  set_exports [] k a h = absurd (omega arith)
  set_exports (x ∷ xs) zero a h = refl
  set_exports (x ∷ xs) (suc k) a h = ap (λ t. export_for x ∷ t) (set_exports xs k a (omega arith))

  -- one more, before number k

  inserted : List Waiting → ℕ → Waiting → List Waiting
  inserted xs k x = take k xs ++ (x ∷ drop k xs)

  pub more-words : (xs ys : List Waiting) → waiting_words (xs ++ ys) ≡ waiting_words xs ++ waiting_words ys
  unfolding waiting_words
  more-words [] ys = refl
  more-words (x ∷ xs) ys = ap (λ t. x.place ∷ x.address ∷ t) (more-words xs ys)

  pub more_exports : (xs ys : List Waiting) → exports_for (xs ++ ys) ≡ exports_for xs ++ exports_for ys
  unfolding exports_for
  more_exports [] ys = refl
  more_exports (x ∷ xs) ys = ap (λ t. export_for x ∷ t) (more_exports xs ys)

  take_exports : (k : ℕ) (xs : List Waiting) → take k (exports_for xs) ≡ exports_for (take k xs)
  unfolding exports_for
  take_exports zero xs = refl
  take_exports (suc k) [] = refl
  take_exports (suc k) (x ∷ xs) = ap (λ t. export_for x ∷ t) (take_exports k xs)

  drop_exports : (k : ℕ) (xs : List Waiting) → drop k (exports_for xs) ≡ exports_for (drop k xs)
  unfolding exports_for
  drop_exports zero xs = refl
  drop_exports (suc k) [] = refl
  drop_exports (suc k) (x ∷ xs) = drop_exports k xs

  insert_exports
      : (xs : List Waiting) (k : ℕ) (x : Waiting) → exports_for (inserted xs k x) ≡ take k (exports_for xs) ++ (export_for x ∷ drop k (exports_for xs))
  unfolding exports_for inserted
  insert_exports xs k x = more_exports (take k xs) (x ∷ drop k xs) ∙ rw (take_exports k xs, drop_exports k xs)

  -- the export of a name that waits already: its address is replaced
  pub record Put (xs : List Waiting) (place a : ℕ) (ys : List Waiting) : Type 0 where
    pub exports : exports_for ys ≡ put_named (exports_for xs) (name_for place) a
    pub small : Below (2 ^ 32) (waiting_words ys)

  module _ (xs : List Waiting) (place a k : ℕ) (s : Below (2 ^ 32) (waiting_words xs)) (ha : a < 2 ^ 32) (l : List ℕ) (o : ℕ) where
    module _ (e : position_of (exports_for xs) (name_for place) ≡ Ok k) where
      again_inside : k < length xs
      again_inside = omega (arith, (put-at (exports_for xs) (name_for place) a k e).0, length_exports xs)

      pub put_again
          : (ys : List Waiting) × Put xs place a ys × (length ys ≡ length xs)
          × (set_word_in (sets l o (flat (waiting_words xs))) (o + 8 * k + 4) a ≡ sets l o (flat (waiting_words ys)))
      unfolding readdressed
      put_again =
          let p = put-at (exports_for xs) (name_for place) a k e in
          let h = again_inside in
          let z : o + 8 * k + 4 ≡ o + 4 * (2 * k + 1) = omega arith in
          let v = set_words xs k a h in (
            readdressed xs k a,
            record {
              exports = set_exports xs k a h ∙ sym p.1;
              small = subst (Below (2 ^ 32)) v (below_set (2 ^ 32) (waiting_words xs) (2 * k + 1) a s ha);
            },
            length-set xs k (record { place = (slice_index_or xs k a_waiting).place; address = a }),
            rw z (change-laid l o (waiting_words xs) (2 * k + 1) a (omega (arith, h, length-waiting xs)) ∙ ap (λ t. sets l o (flat t)) v),
          )

    -- a new one, before number k: two words are put there and what follows moves up
    module _ (hp : place < 2 ^ 32) (e : position_of (exports_for xs) (name_for place) ≡ Err k)
        (inside : o + 8 * length xs ≤ length l) where
      abbrev new : Waiting
      new = record { place = place; address = a }

      abbrev two : List ℕ
      two = place ∷ a ∷ []

      abbrev front : List ℕ
      front = flat (waiting_words (take k xs))

      abbrev back : List ℕ
      back = flat (waiting_words (drop k xs))

      new-inside : k ≤ length xs
      new-inside = omega (arith, (put_before (exports_for xs) (name_for place) a k e).0, length_exports xs)

      split : flat (waiting_words xs) ≡ front ++ back
      split =
          ap (λ t. flat (waiting_words t)) (sym (take-append-drop k xs)) ∙ ap flat (more-words (take k xs) (drop k xs))
          ∙ flat_append (waiting_words (take k xs)) (waiting_words (drop k xs))

      length_front : length front ≡ 8 * k
      length_front = length-bytes (take k xs) ∙ ap (λ t. 8 * t) (length-take-le k xs new-inside)

      length_back : length back ≡ 8 * length xs - 8 * k
      length_back = length-bytes (drop k xs) ∙ ap (λ t. 8 * t) (length-drop k xs) ∙ omega arith

      the_back : part (sets l o (flat (waiting_words xs))) (o + 8 * k) (8 * length xs - 8 * k) ≡ back
      unfolding part
      the_back =
          let b : length (flat (waiting_words xs)) ≡ 8 * length xs = length-bytes xs in
          part_sets l o (flat (waiting_words xs)) (8 * k) (8 * length xs - 8 * k) (omega (arith, b)) (omega (arith, b, new-inside))
          ∙ ap (λ t. take (8 * length xs - 8 * k) (drop (8 * k) t)) split
          ∙ ap (take (8 * length xs - 8 * k)) (drop_at front back (8 * k) length_front)
          ∙ take_all (8 * length xs - 8 * k) back (omega (arith, length_back))

      new-words : waiting_words (inserted xs k new) ≡ waiting_words (take k xs) ++ (two ++ waiting_words (drop k xs))
      unfolding inserted waiting_words
      new-words = more-words (take k xs) (new ∷ drop k xs)

      new-bytes : flat (waiting_words (inserted xs k new)) ≡ front ++ (flat two ++ back)
      new-bytes =
          ap flat new-words ∙ flat_append (waiting_words (take k xs)) (two ++ waiting_words (drop k xs))
          ∙ ap (λ t. front ++ t) (flat_append two (waiting_words (drop k xs)))

      new-small : Below (2 ^ 32) (waiting_words (inserted xs k new))
      new-small =
          let both_parts : Below (2 ^ 32) (waiting_words (take k xs) ++ waiting_words (drop k xs)) =
          subst (Below (2 ^ 32)) (ap waiting_words (sym (take-append-drop k xs)) ∙ more-words (take k xs) (drop k xs)) s in
          subst (Below (2 ^ 32)) (sym new-words)
          (below_append (waiting_words (take k xs)) (two ++ waiting_words (drop k xs)) (2 ^ 32)
          (below_front (waiting_words (take k xs)) (waiting_words (drop k xs)) (2 ^ 32) both_parts (omega arith))
          (below_append two (waiting_words (drop k xs)) (2 ^ 32) (below_append (place ∷ []) (a ∷ []) (2 ^ 32) (below_one place hp) (below_one a ha))
          (below_back (waiting_words (take k xs)) (waiting_words (drop k xs)) (2 ^ 32) both_parts)))

      pub put-new
          : (ys : List Waiting) × Put xs place a ys × (length ys ≡ length xs + 1)
          × (sets (sets l o (flat (waiting_words xs))) (o + 8 * k)
          (flat two ++ part (sets l o (flat (waiting_words xs))) (o + 8 * k) (8 * length xs - 8 * k))
          ≡ sets l o (flat (waiting_words ys)))
      unfolding inserted
      put-new =
          let p = put_before (exports_for xs) (name_for place) a k e in
          let f : o + 8 * k ≡ o + length front = omega (arith, length_front) in
          let n : length back ≤ length (flat two ++ back) = omega (arith, length-append (flat two) back) in (
            inserted xs k new,
            record { exports = insert_exports xs k new ∙ sym p.1; small = new-small },
            length-append (take k xs) (new ∷ drop k xs)
                ∙ omega (arith, length-take-le k xs new-inside, length-drop k xs, new-inside),
            ap (λ t. sets (sets l o (flat (waiting_words xs))) (o + 8 * k) (flat two ++ t)) the_back
                ∙ ap (λ j. sets (sets l o (flat (waiting_words xs))) j (flat two ++ back)) f
                ∙ ap (λ t. sets (sets l o t) (o + length front) (flat two ++ back)) split
                ∙ ap (λ t. sets t (o + length front) (flat two ++ back)) (sets_append l o front back)
                ∙ sets_over (sets l o front) (o + length front) back (flat two ++ back) n
                ∙ sym (sets_append l o front (flat two ++ back)) ∙ ap (sets l o) (sym new-bytes),
          )

  -- the words of the record that is written from them
  pub exports_below
      : (xs : List Waiting) (q : ℕ) → Below (2 ^ 32) (waiting_words xs) → q + length (export_names (exports_for xs)) < 2 ^ 32
      → Below (2 ^ 32) (export_words q (exports_for xs))
  unfolding waiting_words exports_for export_words export_names
  exports_below [] q s h = λ k. omega arith
  exports_below (x ∷ xs) q s h =
      let l = length-append (name_for x.place) (export_names (exports_for xs)) in
      below_append (q ∷ length (name_for x.place) ∷ x.address ∷ []) (export_words (q + length (name_for x.place)) (exports_for xs)) (2 ^ 32)
      (below_three q (length (name_for x.place)) x.address (omega arith) (omega arith) (s 1))
      (exports_below xs (q + length (name_for x.place)) (λ k. s (suc (suc k))) (omega arith))
