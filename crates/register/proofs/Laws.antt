-- From the code's loops and tests to the definitions.
use Rattle.std.proofs.Common.{◌≡◌, ℕ, ◌+◌, ◌-◌, ◌/◌, ◌<◌, ◌≤◌, Bool, true, false, ◌&&◌, List, length, get_or, take, drop, sym, refl, add-one, arith, length-drop, drop_of_length-le, take_all, drop-cons, eq-eqb, ne_eqb}
use lib.ListN.{get_or-eq_default}
use lib.Seq.{drop-length, take-nil}
use Rattle.register.specs.Words.{part, all_zero, words_in, length-words}

-- a word past the whole ones
pub word_none : (l : List ℕ) (i : ℕ) → length l / 4 ≤ i → 0 ≡ get_or (words_in l) i 0
word_none l i h = sym (get_or-eq_default (words_in l) 0 (rw length-words h))

-- a part that the bytes cut short
pub part-past : (l : List ℕ) (o n : ℕ) → length l < o → take (length l - length l) (drop (length l) l) ≡ part l o n
unfolding part
part-past l o n h = let g : length l ≤ o = omega arith in rw (drop-length, drop_of_length-le l g, take-nil, take-nil)

pub part-short : (l : List ℕ) (o n : ℕ) → o ≤ length l → length l < o + n → take (length l - o) (drop o l) ≡ part l o n
unfolding part
part-short l o n g h =
    let d : length (drop o l) ≡ length l - o = length-drop o l in
    rw (take_all (length l - o) (drop o l) (omega arith), take_all n (drop o l) (omega arith))

pub part-whole : (l : List ℕ) (o n : ℕ) → take (o + n - o) (drop o l) ≡ part l o n
unfolding part
part-whole l o n = let e : o + n - o ≡ n = omega arith in rw e

-- what `&l[n..]` is
pub rest_of : (l : List ℕ) (n : ℕ) → take (length l - n) (drop n l) ≡ drop n l
rest_of l n = let d : length (drop n l) ≡ length l - n = length-drop n l in take_all (length l - n) (drop n l) (omega arith)

-- the bytes left from place i on

pub zero_more : (l : List ℕ) (i : ℕ) → i < length l → (get_or l i 0 ≡ 0 → ⊥) → false ≡ all_zero (drop i l)
unfolding all_zero
zero_more l i h n = rw (drop-cons l i 0 h) (simp (ne_eqb _ _ n))

-- a flag that falls at the first byte that is not 0
pub zero-off : (l : List ℕ) (i : ℕ) (z : Bool) → i < length l → (get_or l i 0 ≡ 0 → ⊥) → (false && all_zero (drop (i + 1) l)) ≡ (z && all_zero (drop i l))
zero-off l i false h n = refl
zero-off l i true h n = zero_more l i h n

pub zero_on : (l : List ℕ) (i : ℕ) → i < length l → get_or l i 0 ≡ 0 → all_zero (drop (i + 1) l) ≡ all_zero (drop i l)
unfolding all_zero
zero_on l i h e = rw (drop-cons l i 0 h, add-one) (simp (eq-eqb _ _ e))

pub zero_end : (l : List ℕ) (i : ℕ) → length l ≤ i → true ≡ all_zero (drop i l)
unfolding all_zero
zero_end l i h = rw (drop_of_length-le l h)

pub zero_left : (l : List ℕ) (i : ℕ) (z : Bool) → length l ≤ i → z ≡ (z && all_zero (drop i l))
zero_left l i false h = refl
zero_left l i true h = zero_end l i h
