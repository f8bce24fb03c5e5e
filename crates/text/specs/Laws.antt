-- What the definitions of `Text` give.
use Rattle.std.specs.Prelude.{if◌then◌else◌, ℕ, zero, suc, ◌+◌, ◌-◌, ◌/◌, ◌%◌, ◌^◌, ◌≤◌, ◌<◌, min, ◌≡◌, refl, Bool, true, false, List, [], ◌∷◌, ◌++◌, length, take, drop, set, ltb}
use Rattle.std.proofs.Common.{sym, ap, ◌∙◌, append-nil, append_assoc, arith, pow-suc, div-lt_iff_lt-mul, add-one, length-set, take-append-drop, drop_of_length-le, length-take-le, take_all, take-suc-set, drop-set-lt, lt-ltb, le-ltb}
use Rattle.std.proofs.Math.Nat.{pow-zero}
use Rattle.std.proofs.Math.Decide.{dec_lt}
use Rattle.std.proofs.Math.Seq.{take-nil, append_snoc}
use Rattle.text.specs.Text.{bytes, digit_of, digits_in, hex_of, decimal_of, pairs_of, put}

-- put: one byte, and one text after another

module _ (c : ℕ) (s : List ℕ) (i : ℕ) (l : List ℕ) where
  pub put_in : i < length l → put (c ∷ s) (i, l) ≡ put s (i + 1, set l i c)
  unfolding put
  put_in h = rw (lt-ltb i (length l) h)

  pub put_out : length l ≤ i → put (c ∷ s) (i, l) ≡ put s (i, l)
  unfolding put
  put_out h = rw (le-ltb i (length l) h)

pub put-append : (s t : List ℕ) (p : ℕ × List ℕ) → put (s ++ t) p ≡ put t (put s p)
unfolding put
put-append [] t p = refl
put-append (c ∷ s) t (i, l) = put-append s t (if ltb i (length l) then (i + 1, set l i c) else (i, l))

-- pieces put one after another are put as one text

module _ (s t : List ℕ) (o : ℕ × List ℕ) {p : ℕ × List ℕ} (e : p ≡ put s o) where
  pub put_then : {q : ℕ × List ℕ} → q ≡ put t p → q ≡ put (s ++ t) o
  put_then f = f ∙ ap (put t) e ∙ sym (put-append s t o)

  pub put-then-two : (u : List ℕ) {q : ℕ × List ℕ} → q ≡ put (t ++ u) p → q ≡ put (s ++ t ++ u) o
  put-then-two u f = f ∙ ap (put (t ++ u)) e ∙ sym (put-append s (t ++ u) o) ∙ ap (λ l. put l o) (sym (append_assoc s t u))

-- the buffer keeps its length
pub put-length : (s : List ℕ) (p : ℕ × List ℕ) → length (put s p).1 ≡ length p.1
unfolding put
put-length [] p = refl
put-length (c ∷ s) (i, l) = put-length s (if ltb i (length l) then (i + 1, set l i c) else (i, l)) ∙ go (ltb i (length l))
  where
    go : (b : Bool) → length (if◌then◌else◌ {A = ℕ × List ℕ} b (i + 1, set l i c) (i, l)).1 ≡ length l
    go true = length-set l i c
    go false = refl

pub put_kept : (s : List ℕ) (o : ℕ × List ℕ) {p : ℕ × List ℕ} → p ≡ put s o → length p.1 ≡ length o.1
put_kept s o e = ap (λ p. length p.1) e ∙ put-length s o

-- what is put at or after the end is left out
pub put_none : (s : List ℕ) (i : ℕ) (l : List ℕ) → length l ≤ i → put s (i, l) ≡ (i, l)
unfolding put
put_none [] i l h = refl
put_none (c ∷ s) i l h = put_out c s i l h ∙ put_none s i l h

-- from place i on stands the text, as far as there is room
abbrev pub cut : List ℕ → ℕ → List ℕ → ℕ × List ℕ
cut s i l = (i + min (length s) (length l - i), take i l ++ take (length l - i) s ++ drop (i + length s) l)

pub put-cut : (s : List ℕ) (i : ℕ) (l : List ℕ) → i ≤ length l → put s (i, l) ≡ cut s i l
unfolding put
put-cut [] i l h =
    let e : i + 0 ≡ i = omega arith in
    let m : i + min 0 (length l - i) ≡ i = omega arith in
    rw (take-nil, append-nil, e, take-append-drop, m)
put-cut (c ∷ s) i l h = go (dec_lt i (length l)) (put-cut s (i + 1) (set l i c))
  where
    go
        : Dec (i < length l) → (i + 1 ≤ length (set l i c) → put s (i + 1, set l i c) ≡ cut s (i + 1) (set l i c))
        → put (c ∷ s) (i, l) ≡ cut (c ∷ s) i l
    go (yes j) rest =
        let room = length l - (i + 1) in
        let a : length l - i ≡ suc room = omega arith in
        let b : i + 1 + min (length s) room ≡ i + min (suc (length s)) (suc room) = omega arith in
        let e : i + 1 + length s ≡ i + suc (length s) = omega arith in
        let t : take (i + 1) (set l i c) ≡ take i l ++ (c ∷ []) = rw add-one (take-suc-set l i c j) in
        let d : drop (i + 1 + length s) (set l i c) ≡ drop (i + suc (length s)) l =
        drop-set-lt (i + 1 + length s) l i c (omega arith) ∙ rw e in
        put_in c s i l j
        ∙ rest (omega (arith, length-set l i c))
        ∙ rw (length-set, t, d, append_snoc, a, b)
    go (no j) rest =
        let n : length l ≤ i = omega arith in
        let a : length l - i ≡ 0 = omega arith in
        let m : i + min (suc (length s)) 0 ≡ i = omega arith in
        let d : drop (i + suc (length s)) l ≡ [] = drop_of_length-le l {i = i + suc (length s)} (omega arith) in
        put_none (c ∷ s) i l n ∙ rw (a, take_all i l n, d, append-nil l, append-nil l, m)

-- at the start of a buffer stands as much of the text as there is room for, and after it what stood there
pub put_whole
    : (s l : List ℕ) → put s (0, l) ≡ (min (length s) (length l), take (length l) s ++ drop (length s) l)
put_whole s l =
    let a : 0 + min (length s) (length l - 0) ≡ min (length s) (length l) = omega arith in
    let b : length l - 0 ≡ length l = omega arith in
    let d : 0 + length s ≡ length s = omega arith in
    put-cut s 0 l (omega arith) ∙ rw (a, b, d)

-- the place after it is within the buffer, or at its end: what `&buffer[..e]` asks
pub put-within
    : (s : List ℕ) (i : ℕ) (l : List ℕ) {e : ℕ} {b : List ℕ} → i ≤ length l → ◌≡◌ {A = ℕ × List ℕ} (e, b) (put s (i, l))
    → (e ≤ length b) × (e ≡ length (take e b))
put-within s i l {e} {b} h f =
    let n : e ≡ i + min (length s) (length l - i) = ap (λ (p : ℕ × List ℕ). p.0) (f ∙ put-cut s i l h) in
    let g : e ≤ length b = omega (arith, put_kept s (i, l) f) in
    (g, sym (length-take-le e b g))

-- digits

pub power_one : (n : ℕ) → n ^ 1 ≡ n
power_one n = pow-suc n 0 ∙ rw (pow-zero n) (omega arith)

-- a number without its last digit has a digit less
pub shorter : (radix m v : ℕ) → 0 < radix → v < radix ^ suc m → v / radix < radix ^ m
shorter radix m v p h = (div-lt_iff_lt-mul p).1 (rw (pow-suc radix m) at h)

module _ (radix n v : ℕ) where
  pub digits_last : v < radix → digits_in radix (suc n) v ≡ digit_of v ∷ []
  unfolding digits_in
  digits_last h = rw (lt-ltb v radix h)

  pub digits_more : radix ≤ v → digits_in radix (suc n) v ≡ digits_in radix n (v / radix) ++ (digit_of (v % radix) ∷ [])
  unfolding digits_in
  digits_more h = rw (le-ltb v radix h)

-- a number that m digits are enough for has no more of them
pub digits_enough
    : (radix m n v : ℕ) → 0 < radix → v < radix ^ suc m → digits_in radix (suc (m + n)) v ≡ digits_in radix (suc m) v
digits_enough radix zero n v p h =
    let l : v < radix = omega (arith, power_one radix) in
    digits_last radix (0 + n) v l ∙ sym (digits_last radix 0 v l)
digits_enough radix (suc m) n v p h = go (dec_lt v radix) (digits_enough radix m n (v / radix) p)
  where
    go
        : Dec (v < radix) → (v / radix < radix ^ suc m → digits_in radix (suc (m + n)) (v / radix) ≡ digits_in radix (suc m) (v / radix))
        → digits_in radix (suc (suc m + n)) v ≡ digits_in radix (suc (suc m)) v
    go (yes l) f = digits_last radix (suc m + n) v l ∙ sym (digits_last radix (suc m) v l)
    go (no l) f =
        let g : radix ≤ v = omega arith in
        let e : suc m + n ≡ suc (m + n) = omega arith in
        rw (digits_more radix (suc m + n) v g, digits_more radix (suc m) v g, e, f (shorter radix (suc m) v p h))

-- examples

decimal_0 : decimal_of 0 ≡ bytes "0"
unfolding decimal_of digits_in digit_of bytes
decimal_0 = refl

decimal_largest : decimal_of 4294967295 ≡ bytes "4294967295"
unfolding decimal_of digits_in digit_of bytes
decimal_largest = refl

hex_1000 : hex_of 0x1000 ≡ bytes "1000"
unfolding hex_of digits_in digit_of bytes
hex_1000 = refl

hex_deadbeef : hex_of 0xdeadbeef ≡ bytes "deadbeef"
unfolding hex_of digits_in digit_of bytes
hex_deadbeef = refl

pairs_0a : pairs_of (0x0a ∷ []) ≡ bytes "0a"
unfolding pairs_of digit_of bytes
pairs_0a = refl
