-- What the words of a desk's bytes say of its places.
use Rattle.std.specs.Prelude.{if◌then◌else◌}
use Rattle.std.proofs.Common.{◌≡◌, ℕ, zero, suc, ◌+◌, ◌-◌, ◌*◌, ◌<◌, ◌≤◌, min, Bool, true, false, leb, List, [], length, get_or, drop, sym, refl, ap, ◌∙◌, arith, length-take, get_or-drop, get_or-take, leb-false, leb-true}
use lib.ListN.{get_or-eq_default}
use Rattle.register.specs.Words.{part, words_in, length-words}
use Rattle.register.specs.Lists.{length_part}
use Rattle.desk_spec.specs.Desk.{Place, place, place_at, oldest}
use Rattle.desk_spec.specs.Bytes.{at_most, place_start, place_in, places_in, desk_in, desk_of, place_word}

-- a count above its limit is the limit

pub limited : (limit n : ℕ) → min n limit ≡ at_most limit n
limited limit n = go (leb limit n) refl
  where
    go : (b : Bool) → leb limit n ≡ b → min n limit ≡ (if b then limit else n)
    go true e = let h = leb-true limit n e in omega arith
    go false e = let h = leb-false limit n e in omega arith

pub within_limit : (limit n : ℕ) → at_most limit n ≤ limit
within_limit limit n = go (leb limit n) refl
  where
    go : (b : Bool) → leb limit n ≡ b → (if b then limit else n) ≤ limit
    go true e = omega arith
    go false e = let h = leb-false limit n e in omega arith

-- the places that the words have

length_places : (W : List ℕ) (n i : ℕ) → length (places_in W n i) ≡ n
unfolding places_in
length_places W zero i = refl
length_places W (suc n) i = ap suc (length_places W n (suc i))

pub taken_are : (bytes : List ℕ) → at_most 8 (get_or (words_in bytes) 0 0) ≡ length (desk_of bytes).places
unfolding desk_of desk_in
taken_are bytes = sym (length_places (words_in bytes) (at_most 8 (get_or (words_in bytes) 0 0)) 0)

pub most_taken : (bytes : List ℕ) → length (desk_of bytes).places ≤ 8
most_taken bytes = let most = within_limit 8 (get_or (words_in bytes) 0 0) in omega (arith, taken_are bytes)

pub next_is : (bytes : List ℕ) → at_most 8 (get_or (words_in bytes) 1 0) ≡ (desk_of bytes).next
unfolding desk_of desk_in
next_is bytes = refl

place_in_lem : (W : List ℕ) (n i j : ℕ) → j < n → place_at (places_in W n i) j ≡ place_in W (i + j)
unfolding places_in place_at
place_in_lem W zero i j h = absurd (omega arith)
place_in_lem W (suc n) i zero h = let e : i + 0 ≡ i = omega arith in rw e
place_in_lem W (suc n) i (suc j) h = let e : i + suc j ≡ suc i + j = omega arith in rw e (place_in_lem W n (suc i) j (omega arith))

place_of-words : (bytes : List ℕ) (i : ℕ) → i < length (desk_of bytes).places → place_at (desk_of bytes).places i ≡ place_in (words_in bytes) i
unfolding desk_of desk_in
place_of-words bytes i h =
    let W = words_in bytes in
    let n = at_most 8 (get_or W 0 0) in
    let g : i < n = rw length_places at h in
    let e : 0 + i ≡ i = omega arith in
    place_in_lem W n 0 i g ∙ ap (place_in W) e

none_behind : (places : List Place) (i : ℕ) → length places ≤ i → place_at places i ≡ place 0 []
unfolding place_at
none_behind places i h = get_or-eq_default places (place 0 []) h

empty-word : (f : ℕ) → place_word (place 0 []) f ≡ 0
unfolding place_word
empty-word zero = refl
empty-word (suc zero) = refl
empty-word (suc (suc j)) = refl

pub first_word : (p : Place) → place_word p 0 ≡ p.caller
unfolding place_word
first_word p = refl

pub third_word : (p : Place) → place_word p 2 ≡ oldest p
unfolding place_word oldest
third_word p = refl

-- at most 16 buffers wait at a place

part_most : (l : List ℕ) (o n : ℕ) → length (part l o n) ≤ n
unfolding part
part_most l o n = rw (length-take n (drop o l)) (omega arith)

waiting_in : (W : List ℕ) (i : ℕ) → length (place_in W i).waiting ≤ 16
unfolding place_in
waiting_in W i =
    let count = get_or W (place_start i + 1) 0 in
    omega (arith, part_most W (place_start i + 2) (at_most 16 count), within_limit 16 count)

pub most_waiting_lem : (bytes : List ℕ) (i : ℕ) → place_word (place_at (desk_of bytes).places i) 1 ≤ 16
unfolding place_word
most_waiting_lem bytes i = go (leb (length (desk_of bytes).places) i) refl
  where
    go : (b : Bool) → leb (length (desk_of bytes).places) i ≡ b → length (place_at (desk_of bytes).places i).waiting ≤ 16
    go true e = rw (none_behind (desk_of bytes).places i (leb-true _ _ e)) (omega arith)
    go false e = rw (place_of-words bytes i (leb-false _ _ e)) (waiting_in (words_in bytes) i)

-- the words of a place, as they are read

pub word-behind : (bytes : List ℕ) (i f : ℕ) → length (desk_of bytes).places ≤ i → 0 ≡ place_word (place_at (desk_of bytes).places i) f
word-behind bytes i f h = sym (ap (λ p. place_word p f) (none_behind (desk_of bytes).places i h) ∙ empty-word f)

module _ (bytes : List ℕ) (i : ℕ) (inside : i < length (desk_of bytes).places) where
  abbrev there : Place
  there = place_at (desk_of bytes).places i

  pub caller_word : (f : ℕ) → f ≡ 0 → get_or (words_in bytes) (4 + 18 * i) 0 ≡ place_word there f
  unfolding place_word place_in
  caller_word f z = rw (z, place_of-words bytes i inside)

  module _ {count waiting : ℕ} (c : count ≡ get_or (words_in bytes) (4 + 18 * i + 1) 0) (w : waiting ≡ at_most 16 count) where
    waiting_are : there.waiting ≡ part (words_in bytes) (4 + 18 * i + 2) waiting
    unfolding place_in
    waiting_are = rw (place_of-words bytes i inside, w, c)

    pub count_word : 592 ≤ length bytes → (f : ℕ) → f ≡ 1 → waiting ≡ place_word there f
    unfolding place_word
    count_word long f z =
        let most : waiting ≤ 16 = rw w (within_limit 16 count) in
        let fits : 4 + 18 * i + 2 + waiting ≤ length (words_in bytes) = omega (arith, most_taken bytes, length-words bytes) in
        rw (z, waiting_are) (sym (length_part (words_in bytes) (4 + 18 * i + 2) waiting fits))

    pub unused_word : (f : ℕ) → (f ≡ 0 → ⊥) → (f ≡ 1 → ⊥) → waiting ≤ f - 2 → 0 ≡ place_word there f
    unfolding place_word
    unused_word zero n₀ n₁ h = absurd (n₀ refl)
    unused_word (suc zero) n₀ n₁ h = absurd (n₁ refl)
    unused_word (suc (suc j)) n₀ n₁ h =
        let past : length there.waiting ≤ j = rw waiting_are (omega (arith, part_most (words_in bytes) (4 + 18 * i + 2) waiting)) in
        sym (get_or-eq_default there.waiting 0 past)

    pub buffer_word_lem : (f : ℕ) → (f ≡ 0 → ⊥) → (f ≡ 1 → ⊥) → f - 2 < waiting → get_or (words_in bytes) (4 + 18 * i + f) 0 ≡ place_word there f
    unfolding place_word part
    buffer_word_lem zero n₀ n₁ h = absurd (n₀ refl)
    buffer_word_lem (suc zero) n₀ n₁ h = absurd (n₁ refl)
    buffer_word_lem (suc (suc j)) n₀ n₁ h =
        let e : 4 + 18 * i + suc (suc j) ≡ 4 + 18 * i + 2 + j = omega arith in
        rw (e, waiting_are)
        (sym (get_or-take waiting (drop (4 + 18 * i + 2) (words_in bytes)) j 0 (omega arith) ∙ get_or-drop (4 + 18 * i + 2) (words_in bytes) j 0))
