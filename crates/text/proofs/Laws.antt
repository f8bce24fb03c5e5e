-- From the loops over a text and over digits to the definitions of `Text`.
use Prim.Native.Nat.{ℕ, zero, suc, ◌+◌, ◌-◌, ◌/◌, ◌%◌, ◌^◌, ◌≤◌, ◌<◌}
use mathlib.Core.Path.{◌≡◌, refl, sym, ◌∙◌}
use mathlib.Core.List.{List, [], ◌∷◌, ◌++◌, append_assoc}
use native.Mathlib.Omega.{arith}
use native.Mathlib.Numerals.{add-one}
use lib.ListN.{length, take, drop, get_or, set, length-set, length-drop, drop_of_length-le}
use lib.Seq.{take_all, drop-cons, get_or-set_same, drop-set-lt, lt-length-set}
use Rattle.text.specs.Text.{digit_of, digits_in, pairs_of, put}
use Rattle.text.specs.Laws.{put_in, put_out, put-append, power_one, digits_last, digits_more}

-- one byte of a text: what is put on from there, and the buffer's length

module _ (text : List ℕ) (k i : ℕ) (l : List ℕ) (h : k < length text) where
  abbrev pub Goes : ℕ → List ℕ → Type 0
  Goes j m = (length m ≡ length l) × (put (drop (k + 1) text) (j, m) ≡ put (drop k text) (i, l))

  pub byte_in : {j : ℕ} {m : List ℕ} → i < length l → m ≡ set l i (get_or text k 0) → j ≡ i + 1 → Goes j m
  byte_in f e g =
      let b = get_or text k 0 in
      rw (e, g, add-one k, drop-cons text k 0 h) (length-set l i b, sym (put_in b (drop (suc k) text) i l f))

  pub byte_out : {j : ℕ} {m : List ℕ} → length l ≤ i → m ≡ l → j ≡ i → Goes j m
  byte_out f e g = rw (e, g, add-one k, drop-cons text k 0 h) (refl, sym (put_out (get_or text k 0) (drop (suc k) text) i l f))

pub put-done : (text : List ℕ) (p : ℕ × List ℕ) {k : ℕ} → length text ≤ k → p ≡ put (drop k text) p
unfolding put
put-done text p h = rw (drop_of_length-le text h)

-- a number of two digits or more
pub more_left : (radix i rest : ℕ) → rest < radix ^ (i + 1) → radix ≤ rest → 1 ≤ i
more_left radix zero rest h g = absurd (omega (arith, power_one radix))
more_left radix (suc i) rest h g = omega arith

-- one digit, written in front of those after it

module _ (radix i rest : ℕ) (l : List ℕ) (h : i < length l) where
  written : (d : ℕ) → drop i (set l i d) ≡ d ∷ drop (i + 1) l
  written d =
      rw (add-one i, drop-cons (set l i d) i 0 (lt-length-set l i d h), get_or-set_same l i d 0 h, drop-set-lt (suc i) l i d (omega arith))

  pub digit_more
      : {d : ℕ} → radix ≤ rest → d ≡ digit_of (rest % radix)
      → digits_in radix i (rest / radix) ++ drop i (set l i d) ≡ digits_in radix (i + 1) rest ++ drop (i + 1) l
  digit_more {d} g e =
      rw (written d, e, add-one i, digits_more radix i rest g)
      (sym (append_assoc (digits_in radix i (rest / radix)) (digit_of (rest % radix) ∷ []) (drop (suc i) l)))

  -- the first digit is the last to be written, so all from it on are the number's
  pub digit_last
      : (n : ℕ) {d : ℕ} → length l ≡ n → rest < radix → d ≡ digit_of rest
      → take (n - i) (drop i (set l i d)) ≡ digits_in radix (i + 1) rest ++ drop (i + 1) l
  digit_last n {d} m g e =
      let k : length (drop i (set l i d)) ≤ n - i = simp (length-drop, length-set) (omega arith) in
      take_all (n - i) (drop i (set l i d)) k ∙ rw (written d, e, add-one i, digits_last radix i rest g)

-- one byte in two digits

pub pair-more
    : (bytes : List ℕ) (k : ℕ) (p : ℕ × List ℕ) {v a b : ℕ} → k < length bytes → v ≡ get_or bytes k 0 → a ≡ digit_of (v / 16) → b ≡ digit_of (v % 16)
    → put (pairs_of (drop (k + 1) bytes)) (put (a ∷ b ∷ []) p) ≡ put (pairs_of (drop k bytes)) p
unfolding pairs_of
pair-more bytes k p h w e f =
    rw (e, f, w, add-one k, drop-cons bytes k 0 h) (sym (put-append (_ ∷ _ ∷ []) (pairs_of (drop (suc k) bytes)) p))

pub pairs-done : (bytes : List ℕ) (p : ℕ × List ℕ) {k : ℕ} → length bytes ≤ k → p ≡ put (pairs_of (drop k bytes)) p
unfolding put pairs_of
pairs-done bytes p h = rw (drop_of_length-le bytes h)
