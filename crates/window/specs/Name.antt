-- Document 01: "A name is the bytes before a zero, at most 512. Address 0 reads as the empty name. Names compare as raw bytes."
use Rattle.std.specs.declared.cmp.Ordering.{Ordering}
use Rattle.std.specs.declared.cmp.Ordering.TheVariants.{Less, Equal, Greater}
use Rattle.std.specs.Prelude.{if◌then◌else◌, ◌≡◌, ℕ, zero, suc, ◌+◌, ◌^◌, ◌<◌, ◌≤◌, Bool, true, false, not, ◌&&◌, ltb, ◌≢◌, ◌⊎◌, List, [], ◌∷◌, ◌++◌, length, take, drop, ◌==◌, nat_eq, nat_le, nat_lt, slice_index, slice_index_or}
use Rattle.std.proofs.Math.Path.{refl, ap}
use Rattle.std.proofs.Common.{sym, ◌∙◌, inl, inr, length-append, length-drop, length-take-le, get_or-take, get_or-drop, eq-eqb, ne_eqb, le-leb, lt-ltb, le-ltb, ltb-true, ltb-false}
use native.Mathlib.Omega.{arith}
use Rattle.std.proofs.Math.Decide.{ℕ_discrete}
use Rattle.std.proofs.Math.Seq.{take-append_seam}
use Rattle.std.proofs.lemmas.Bool.{eqb-false, not-true}
use Rattle.window.specs.Memory.{◌⊕◌, place, byte_at}
use Rattle.window.specs.Bytes.{byte_at-add, place_on}
use Rattle.window.specs.Tests.{both}
use Rattle.window.specs.Access.{Prog, ret, ◌>>=◌, get8, run, run_bind, Reads, reads_bind}
use Rattle.window.specs.Within.{In, Within, within_bind}

-- "A name is the bytes before a zero, at most 512": here those from p on, at most n; the zero, or the n-th byte, is the last one read
unfoldable pub name_from : ℕ → ℕ → Prog (List ℕ)
name_from zero p = ret []
name_from (suc n) p = do
  b ← get8 p
  if b == 0 then ret [] else (do
    rest ← name_from n (p ⊕ 1)
    ret (b ∷ rest))

-- "Address 0 reads as the empty name."
unfoldable pub name_at : ℕ → Prog (List ℕ)
name_at p = if p == 0 then ret [] else name_from 512 p

-- at 0 there is no access at all
pub name_at_0 : name_at 0 ≡ ret []
unfolding name_at
name_at_0 = refl

pub name_none : (at p : ℕ) (w : List ℕ) → p ≡ 0 → (run at (name_at p) w).0 ≡ []
unfolding run
name_none at p w e = rw (e, name_at_0)

pub name_some : (p : ℕ) → (p ≢ 0) → name_at p ≡ name_from 512 p
unfolding name_at
name_some p n = rw (ne_eqb p 0 n)

module _ (at : ℕ) (n p : ℕ) (w : List ℕ) where
  pub name-stop : byte_at at w p ≡ 0 → (run at (name_from (suc n) p) w).0 ≡ []
  unfolding name_from run ◌>>=◌
  name-stop e = rw (eq-eqb (byte_at at w p) 0 e, run)

  pub name_on : (byte_at at w p ≢ 0) → (run at (name_from (suc n) p) w).0 ≡ byte_at at w p ∷ (run at (name_from n (p ⊕ 1)) w).0
  unfolding name_from run ◌>>=◌
  name_on e =
      rw (ne_eqb (byte_at at w p) 0 e, run)
      (ap (λ (r : List ℕ × List ℕ). r.0) (run_bind at (name_from n (p ⊕ 1)) (λ rest. ret (byte_at at w p ∷ rest)) w))

-- what a name is as a list: at most 512 bytes, none of them 0
unfoldable pub no_zero : List ℕ → Bool
no_zero [] = true
no_zero (b ∷ l) = not (b == 0) && no_zero l

unfoldable pub is_name : List ℕ → Bool
is_name l = nat_le (length l) 512 && no_zero l

-- what is read is one: by induction on the bytes left to read
name_ind
    : (at : ℕ) (P : ℕ → List ℕ → Type 0) → ((n : ℕ) → P n []) → ((n b : ℕ) (l : List ℕ) → (b ≢ 0) → P n l → P (suc n) (b ∷ l))
    → (n p : ℕ) (w : List ℕ) → P n (run at (name_from n p) w).0
unfolding name_from run
name_ind at P none more zero p w = none zero
name_ind at P none more (suc n) p w = go (ℕ_discrete (byte_at at w p) 0) (name_ind at P none more n (p ⊕ 1) w)
  where
    go : Dec (byte_at at w p ≡ 0) → P n (run at (name_from n (p ⊕ 1)) w).0 → P (suc n) (run at (name_from (suc n) p) w).0
    go (yes e) h = rw (name-stop at n p w e) (none (suc n))
    go (no e) h = rw (name_on at n p w e) (more n (byte_at at w p) (run at (name_from n (p ⊕ 1)) w).0 e h)

pub name-short : (at n p : ℕ) (w : List ℕ) → length (run at (name_from n p) w).0 ≤ n
name-short at n p w = name_ind at (λ m l. length l ≤ m) (λ m. omega arith) (λ m b l e h. omega arith) n p w

pub name-no_zero : (at n p : ℕ) (w : List ℕ) → no_zero (run at (name_from n p) w).0 ≡ true
unfolding no_zero
name-no_zero at n p w =
    name_ind at (λ m l. no_zero l ≡ true) (λ m. refl) (λ m b l e h. rw (ne_eqb b 0 e, h)) n p w

pub name_at-is_name : (at p : ℕ) (w : List ℕ) → is_name (run at (name_at p) w).0 ≡ true
unfolding is_name no_zero
name_at-is_name at p w = go (ℕ_discrete p 0)
  where
    go : Dec (p ≡ 0) → (nat_le (length (run at (name_at p) w).0) 512 && no_zero (run at (name_at p) w).0) ≡ true
    go (yes e) = rw (name_none at p w e)
    go (no e) = rw (name_some p e, name-no_zero at 512 p w, le-leb _ 512 (name-short at 512 p w))

-- a name only reads
pub name_from_reads : (n p : ℕ) → Reads (name_from n p)
unfolding name_from Reads ◌>>=◌
name_from_reads zero p = tt
name_from_reads (suc n) p = λ b. go b (b == 0) (name_from_reads n (p ⊕ 1))
  where
    go : (b : ℕ) (t : Bool) → Reads (name_from n (p ⊕ 1)) → Reads (if t then ret [] else (name_from n (p ⊕ 1) >>= λ rest. ret (b ∷ rest)))
    go b true h = tt
    go b false h = reads_bind (name_from n (p ⊕ 1)) (λ rest. ret (b ∷ rest)) h (λ rest. tt)

pub name_at_reads : (p : ℕ) → Reads (name_at p)
unfolding name_at Reads
name_at_reads p = go (p == 0)
  where
    go : (t : Bool) → Reads (if t then ret [] else name_from 512 p)
    go true = tt
    go false = name_from_reads 512 p

-- every access of a name lies in a range that holds its start and, from there on, a zero
module _ (at a c : ℕ) (w : List ℕ) (z : ℕ) (stop : In a c z) (top : a + c ≤ 2 ^ 32) (zeroed : byte_at at w z ≡ 0) where
  pub name-within : (n p : ℕ) → In a c p → p ≤ z → Within (In a c) at (name_from n p) w
  unfolding name_from Within ◌>>=◌
  name-within zero p i l = tt
  name-within (suc n) p i l = (i, go (ℕ_discrete (byte_at at w p) 0) (name-within n (p ⊕ 1)))
    where
      go
          : Dec (byte_at at w p ≡ 0) → (In a c (p ⊕ 1) → p ⊕ 1 ≤ z → Within (In a c) at (name_from n (p ⊕ 1)) w)
          → Within (In a c) at
          (if nat_eq (byte_at at w p) 0 then ret [] else (name_from n (p ⊕ 1) >>= λ rest. ret (byte_at at w p ∷ rest))) w
      go (yes e) ih = rw (eq-eqb (byte_at at w p) 0 e, Within) tt
      go (no e) ih =
          let m : p ≢ z = λ y. e (rw y zeroed) in
          rw (ne_eqb (byte_at at w p) 0 e)
          (within_bind (In a c) at (name_from n (p ⊕ 1)) (λ rest. ret (byte_at at w p ∷ rest)) w
          (ih (omega arith, omega arith) (omega arith))
          tt)

-- strings with the same first n bytes give the same name, wherever each of the two stands
module _ (at at' : ℕ) (w w' : List ℕ) where
  pub same-bytes-same-name
      : (n p q : ℕ) → ((k : ℕ) → k < n → byte_at at w (p + k) ≡ byte_at at' w' (q + k))
      → (run at (name_from n p) w).0 ≡ (run at' (name_from n q) w').0
  unfolding name_from run
  same-bytes-same-name zero p q h = refl
  same-bytes-same-name (suc n) p q h =
      go (ℕ_discrete (byte_at at w p) 0) (same-bytes-same-name n (p ⊕ 1) (q ⊕ 1) next)
    where
      first : byte_at at w p ≡ byte_at at' w' q
      first = let e : p + 0 ≡ p = omega arith in let f : q + 0 ≡ q = omega arith in rw (e, f) at (h 0 (omega arith))

      next : (k : ℕ) → k < n → byte_at at w ((p ⊕ 1) + k) ≡ byte_at at' w' ((q ⊕ 1) + k)
      next k l =
          let e : p + 1 + k ≡ p + suc k = omega arith in
          let f : q + 1 + k ≡ q + suc k = omega arith in
          byte_at-add at w (p + 1) k ∙ rw (e, f) (h (suc k) (omega arith)) ∙ sym (byte_at-add at' w' (q + 1) k)

      go
          : Dec (byte_at at w p ≡ 0) → (run at (name_from n (p ⊕ 1)) w).0 ≡ (run at' (name_from n (q ⊕ 1)) w').0
          → (run at (name_from (suc n) p) w).0 ≡ (run at' (name_from (suc n) q) w').0
      go (yes e) ih = name-stop at n p w e ∙ sym (name-stop at' n q w' (sym first ∙ e))
      go (no e) ih = rw (name_on at n p w e, name_on at' n q w' (λ y. e (first ∙ y)), first, ih)

  pub same_512_same-name
      : (p q : ℕ) → p ≢ 0 → q ≢ 0 → ((k : ℕ) → k < 512 → byte_at at w (p + k) ≡ byte_at at' w' (q + k))
      → (run at (name_at p) w).0 ≡ (run at' (name_at q) w').0
  same_512_same-name p q a b h = rw (name_some p a, name_some q b) (same-bytes-same-name 512 p q h)

-- a name in a lent buffer: its length, and the buffer with the name at its start
unfoldable pub laid_over : List ℕ → List ℕ → ℕ × List ℕ
laid_over name buffer = (length name, name ++ drop (length name) buffer)

-- so that many bytes of the buffer are the name
module _ (name old : List ℕ) {n : ℕ} {buffer : List ℕ} (e : (n, buffer) ≡ laid_over name old) where
  name-length : n ≡ length name
  unfolding laid_over
  name-length = ap (λ (x : ℕ × List ℕ). x.0) e

  name-laid : buffer ≡ name ++ drop (length name) old
  unfolding laid_over
  name-laid = ap (λ (x : ℕ × List ℕ). x.1) e

  pub name-fits : n ≤ length buffer
  name-fits = let l = ap length name-laid ∙ length-append name (drop (length name) old) in omega (arith, name-length)

  pub name_is : take n buffer ≡ name
  name_is = rw (name-length, name-laid) (take-append_seam name (drop (length name) old))

  pub name_taken : n ≡ length (take n buffer)
  name_taken = name-length ∙ ap length (sym name_is)

-- "Names compare as raw bytes": the first byte that differs decides, and a shorter name stands before its extensions
unfoldable pub order_of : List ℕ → List ℕ → Ordering
order_of [] [] = Equal
order_of [] (b ∷ t) = Less
order_of (a ∷ s) [] = Greater
order_of (a ∷ s) (b ∷ t) = if nat_lt a b then Less else (if ltb b a then Greater else order_of s t)

-- it is an order: the same only for the same name, turned round by an exchange, and transitive
pub order_self : (a : List ℕ) → order_of a a ≡ Equal
unfolding order_of
order_self [] = refl
order_self (a ∷ s) = rw (le-ltb a a (omega arith)) (order_self s)

pub order_same : (a b : List ℕ) → order_of a b ≡ Equal → a ≡ b
unfolding order_of
order_same [] [] e = refl
order_same [] (b ∷ t) e = cc
order_same (a ∷ s) [] e = cc
order_same (a ∷ s) (b ∷ t) e = go (nat_lt a b) (nat_lt b a) refl refl e (order_same s t)
  where
    go
        : (x y : Bool) → nat_lt a b ≡ x → nat_lt b a ≡ y → (if x then Less else (if y then Greater else order_of s t)) ≡ Equal
        → (order_of s t ≡ Equal → s ≡ t) → ◌≡◌ {A = List ℕ} (a ∷ s) (b ∷ t)
    go true y p q f ih = cc
    go false true p q f ih = cc
    go false false p q f ih =
        let e : a ≡ b = omega (arith, ltb-false a b p, ltb-false b a q) in
        rw (e, ih f)

abbrev pub turned : Ordering → Ordering
turned Less = Greater
turned Equal = Equal
turned Greater = Less

pub order_turned : (a b : List ℕ) → order_of b a ≡ turned (order_of a b)
unfolding order_of
order_turned [] [] = refl
order_turned [] (b ∷ t) = refl
order_turned (a ∷ s) [] = refl
order_turned (a ∷ s) (b ∷ t) = go (nat_lt a b) (nat_lt b a) refl refl (order_turned s t)
  where
    go
        : (x y : Bool) → nat_lt a b ≡ x → nat_lt b a ≡ y → order_of t s ≡ turned (order_of s t)
        → (if y then Less else (if x then Greater else order_of t s)) ≡ turned (if x then Less else (if y then Greater else order_of s t))
    go true true p q ih = absurd (omega (arith, ltb-true a b p, ltb-true b a q))
    go true false p q ih = refl
    go false true p q ih = refl
    go false false p q ih = ih

-- what `Less` says of two names with a first byte
before_cases
    : (a b : ℕ) (s t : List ℕ) → order_of (a ∷ s) (b ∷ t) ≡ Less → (a < b) ⊎ ((a ≡ b) × (order_of s t ≡ Less))
unfolding order_of
before_cases a b s t = go (nat_lt a b) (nat_lt b a) refl refl
  where
    go
        : (x y : Bool) → nat_lt a b ≡ x → nat_lt b a ≡ y → (if x then Less else (if y then Greater else order_of s t)) ≡ Less
        → (a < b) ⊎ ((a ≡ b) × (order_of s t ≡ Less))
    go true y p q e = inl (ltb-true a b p)
    go false true p q e = let z : ◌≡◌ {A = ℕ} 0 1 = cc in absurd (omega arith)
    go false false p q e = let l = ltb-false a b p in let m = ltb-false b a q in inr (omega arith, e)

before_first : (a b : ℕ) (s t : List ℕ) → a < b → order_of (a ∷ s) (b ∷ t) ≡ Less
unfolding order_of
before_first a b s t h = rw (lt-ltb a b h)

before_rest : (a b : ℕ) (s t : List ℕ) → a ≡ b → order_of s t ≡ Less → order_of (a ∷ s) (b ∷ t) ≡ Less
unfolding order_of
before_rest a b s t e h = rw (le-ltb a b (omega arith), le-ltb b a (omega arith)) h

pub before_trans : (a b c : List ℕ) → order_of a b ≡ Less → order_of b c ≡ Less → order_of a c ≡ Less
unfolding order_of
before_trans [] [] c p q = cc
before_trans [] (b ∷ t) [] p q = cc
before_trans [] (b ∷ t) (c ∷ u) p q = refl
before_trans (a ∷ s) [] c p q = cc
before_trans (a ∷ s) (b ∷ t) [] p q = cc
before_trans (a ∷ s) (b ∷ t) (c ∷ u) p q = go (before_cases a b s t p) (before_cases b c t u q) (before_trans s t u)
  where
    go
        : (a < b) ⊎ ((a ≡ b) × (order_of s t ≡ Less)) → (b < c) ⊎ ((b ≡ c) × (order_of t u ≡ Less))
        → (order_of s t ≡ Less → order_of t u ≡ Less → order_of s u ≡ Less) → order_of (a ∷ s) (c ∷ u) ≡ Less
    go (inl h) (inl g) ih = before_first a c s u (omega arith)
    go (inl h) (inr g) ih = before_first a c s u (omega arith)
    go (inr h) (inl g) ih = before_first a c s u (omega arith)
    go (inr h) (inr g) ih = before_rest a c s u (omega arith) (ih h.1 g.1)

-- the name that a row of bytes begins with: a zero or the row's end ends it
unfoldable pub ended : List ℕ → List ℕ
ended [] = []
ended (b ∷ t) = if b == 0 then [] else b ∷ ended t

-- no byte of the word at place i is 0, so no name ends in it
pub record NonZero (row : List ℕ) (i : ℕ) : Type 0 where
  pub at0 : slice_index_or row i 0 ≢ 0
  pub at1 : slice_index_or row (i + 1) 0 ≢ 0
  pub at2 : slice_index_or row (i + 2) 0 ≢ 0
  pub at3 : slice_index_or row (i + 3) 0 ≢ 0

-- a name whose bytes are those of a row is the one that the row begins with
name_of-row
    : (at p : ℕ) (w row : List ℕ) → ((k : ℕ) → k < length row → byte_at at w (p + k) ≡ slice_index row k)
    → (run at (name_from (length row) p) w).0 ≡ ended row
unfolding name_from run ended
name_of-row at p w [] h = refl
name_of-row at p w (b ∷ t) h = go (ℕ_discrete b 0) (name_of-row at (p ⊕ 1) w t next)
  where
    first : byte_at at w p ≡ b
    first = let e : p + 0 ≡ p = omega arith in rw e at (h 0 (omega arith))

    next : (k : ℕ) → k < length t → byte_at at w ((p ⊕ 1) + k) ≡ slice_index t k
    next k l =
        let e : p + 1 + k ≡ p + suc k = omega arith in
        byte_at-add at w (p + 1) k ∙ rw e (h (suc k) (omega arith))

    go
        : Dec (b ≡ 0) → (run at (name_from (length t) (p ⊕ 1)) w).0 ≡ ended t
        → (run at (name_from (suc (length t)) p) w).0 ≡ (if nat_eq b 0 then [] else b ∷ ended t)
    go (yes e) ih = name-stop at (length t) p w (first ∙ e) ∙ rw (eq-eqb b 0 e)
    go (no e) ih = name_on at (length t) p w (λ y. e (sym first ∙ y)) ∙ rw (ne_eqb b 0 e, first, ih)

-- so a name is what a row of 512 bytes inside the window begins with, if the row starts at its address
pub name-ended
    : (at p : ℕ) (w : List ℕ) (i : ℕ) → i ≡ place at p → p ≢ 0 → i + 512 ≤ 2 ^ 32 → i + 512 ≤ length w
    → ended (take 512 (drop i w)) ≡ (run at (name_at p) w).0
unfolding byte_at
name-ended at p w i e n r l = sym (name_of-row at p w row byte) ∙ rw (long, name_some p n)
  where
    row : List ℕ
    row = take 512 (drop i w)

    long : length row ≡ 512
    long = length-take-le 512 (drop i w) (simp length-drop (omega arith))

    byte : (k : ℕ) → k < length row → byte_at at w (p + k) ≡ slice_index row k
    byte k h =
        let m : k < 512 = omega (arith, long) in
        rw (get_or-take 512 (drop i w) k 0 m, get_or-drop i w k 0, e, place_on at p k (omega arith))

-- in a name without a zero the first byte is not 0, and the rest has no zero
no_zero-first : (x : ℕ) (s : List ℕ) → no_zero (x ∷ s) ≡ true → (x ≢ 0) × (no_zero s ≡ true)
unfolding no_zero
no_zero-first x s e = let h = both (not (x == 0)) (no_zero s) e in (eqb-false x 0 (not-true (x == 0) h.0), h.1)

-- so a zero of the row is less than the name's byte there, as the end that it stands for is
order_ended_on
    : (x y : ℕ) (s c t : List ℕ) → x ≢ 0 → order_of s c ≡ order_of s (ended t) → order_of (x ∷ s) (y ∷ c) ≡ order_of (x ∷ s) (ended (y ∷ t))
unfolding order_of ended
order_ended_on x y s c t n h = go (ℕ_discrete y 0)
  where
    go : Dec (y ≡ 0) → order_of (x ∷ s) (y ∷ c) ≡ order_of (x ∷ s) (if nat_eq y 0 then [] else y ∷ ended t)
    go (yes e) = rw (eq-eqb y 0 e, le-ltb x y (omega arith), lt-ltb y x (omega arith))
    go (no e) = rw (ne_eqb y 0 e, h)

-- such a name stands to the one that a row begins with as it stands to the row, up to a zero that follows as many bytes
pub order_ended_0
    : (a b : List ℕ) → no_zero a ≡ true → slice_index b (length a) ≡ 0 → order_of a (take (length a) b) ≡ order_of a (ended b)
unfolding order_of ended
order_ended_0 [] [] z e = refl
order_ended_0 [] (y ∷ t) z e = rw (eq-eqb y 0 e)
order_ended_0 (x ∷ s) [] z e = refl
order_ended_0 (x ∷ s) (y ∷ t) z e =
    let m = no_zero-first x s z in order_ended_on x y s (take (length s) t) t m.0 (order_ended_0 s t m.1 e)

pub order_ended
    : (a b : List ℕ) → no_zero a ≡ true → (slice_index b (length a) ≡ 0 → length b ≤ length a) → order_of a b ≡ order_of a (ended b)
unfolding order_of ended
order_ended [] [] z e = refl
order_ended [] (y ∷ t) z e = rw (ne_eqb y 0 (λ f. let l = e f in omega arith))
order_ended (x ∷ s) [] z e = refl
order_ended (x ∷ s) (y ∷ t) z e =
    let m = no_zero-first x s z in
    order_ended_on x y s t t m.0 (order_ended s t m.1 (λ f. let l = e f in omega arith))
