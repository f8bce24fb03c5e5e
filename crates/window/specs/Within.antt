-- Locality, once for all programs: a run whose accesses lie in S changes nothing off S.
use Rattle.std.specs.Prelude.{◌≡◌, ℕ, zero, suc, ◌+◌, ◌-◌, ◌^◌, ◌<◌, ◌≤◌, ◌≢◌, List, length}
use Rattle.std.proofs.Math.Path.{refl}
use Rattle.std.proofs.Common.{◌∙◌, arith, lit<}
use Rattle.std.proofs.Math.Decide.{dec_le, dec_lt}
use Rattle.window.specs.Memory.{place, byte_at, word_at, put_byte, put_word, put_privileged}
use Rattle.window.specs.Bytes.{byte_at-other, put_bytes-off, put_privileged-off, put_privileged-inside}
use Rattle.window.specs.Access.{Prog, ret, read8, read32, write8, write32, write_privileged, ◌>>=◌, run}
use Rattle.window.specs.Loop.{loop}

-- the addresses p to p + n - 1, exactly
abbrev pub In : (p n q : ℕ) → Type 0
In p n q = (p ≤ q) × (q < p + n)

pub dec_in : (p n q : ℕ) → Dec (In p n q)
dec_in p n q = go (dec_le p q) (dec_lt q (p + n))
  where
    go : Dec (p ≤ q) → Dec (q < p + n) → Dec (In p n q)
    go (yes a) (yes b) = yes (a, b)
    go (yes a) (no b) = no (λ h. b h.1)
    go (no a) b = no (λ h. a h.0)

-- an address of a range is its start and a distance
pub in_range : (P : ℕ → Type 0) (p n q : ℕ) → In p n q → ((k : ℕ) → k < n → P (p + k)) → P q
in_range P p n q h f = let e : p + (q - p) ≡ q = omega arith in rw e at (f (q - p) (omega arith))

pub off-place : (p n q : ℕ) → p + n ≤ 2 ^ 32 → q < 2 ^ 32 → (In p n q → ⊥) → n ≤ place p q
unfolding place
off-place p n q h l o = elim (dec_le n (place p q)) [ yes y ↦ y | no m ↦ absurd (o (omega arith, omega arith)) ]

pub off_byte : (at p q : ℕ) → p < 2 ^ 32 → q < 2 ^ 32 → q ≢ p → place at q ≢ place at p
unfolding place
off_byte at p q h g n e = n (omega arith)

-- the four addresses of the word at p
abbrev pub Four : (ℕ → Type 0) → ℕ → Type 0
Four S p = (k : ℕ) → k < 4 → S (p + k)

-- every access of the run of m on w lies in S
unfoldable pub Within : {A : Type 0} → (ℕ → Type 0) → ℕ → Prog A → List ℕ → Type 0
Within S at (ret a) w = Unit {0}
Within S at (read8 p k) w = S p × Within S at (k (byte_at at w p)) w
Within S at (read32 p k) w = Four S p × Within S at (k (word_at at w p)) w
Within S at (write8 p v k) w = S p × Within S at k (put_byte at w p v)
Within S at (write32 p v k) w = Four S p × Within S at k (put_word at w p v)
Within S at (write_privileged p v k) w = Four S p × Within S at k (put_privileged at w p v)

-- S holds addresses only; S lies in a window of n bytes from `at`
abbrev pub Low : (ℕ → Type 0) → Type 0
Low S = (q : ℕ) → S q → q < 2 ^ 32

abbrev pub Lies : (ℕ → Type 0) → ℕ → ℕ → Type 0
Lies S at n = (q : ℕ) → S q → (q < 2 ^ 32) × (place at q < n)

-- M and N are the same on S, and N is M off S
abbrev pub Agree : (ℕ → Type 0) → (ℕ → ℕ) → (ℕ → ℕ) → Type 0
Agree S M N = (q : ℕ) → S q → M q ≡ N q

abbrev pub Untouched : (ℕ → Type 0) → (ℕ → ℕ) → (ℕ → ℕ) → Type 0
Untouched S M N = (q : ℕ) → q < 2 ^ 32 → (S q → ⊥) → N q ≡ M q

-- in a window that holds S, a privileged write in S is an ordinary one
pub four_privileged
    : (S : ℕ → Type 0) (at n : ℕ) → Lies S at n → (p v : ℕ) (w : List ℕ) → length w ≡ n → Four S p
    → put_privileged at w p v ≡ put_word at w p v
four_privileged S at n fit p v w l s = put_privileged-inside at w p v (λ k h. rw l (fit (p + k) (s k h)).1)

module _ (S : ℕ → Type 0) (at : ℕ) (low : Low S) where
  pub four_top : (p : ℕ) → Four S p → p + 4 ≤ 2 ^ 32
  four_top p s = omega (arith, low (p + 3) (s 3 (lit< tt)))

  pub word-off : (p v : ℕ) (w : List ℕ) → Four S p → Untouched (In p 4) (byte_at at w) (byte_at at (put_word at w p v))
  unfolding put_word
  word-off p v w s q b o = put_bytes-off 4 at w p v q (off-place p 4 q (four_top p s) b o)

  off_four : (p q : ℕ) → Four S p → q < 2 ^ 32 → (S q → ⊥) → 4 ≤ place p q
  off_four p q s b o = off-place p 4 q (four_top p s) b (λ i. o (in_range S p 4 q i s))

  pub untouched
      : {A : Type 0} (m : Prog A) (w : List ℕ) → Within S at m w → Untouched S (byte_at at w) (byte_at at (run at m w).1)
  unfolding run Within put_word
  untouched (ret a) w h q b o = refl
  untouched (read8 p k) w h q b o = untouched (k (byte_at at w p)) w h.1 q b o
  untouched (read32 p k) w h q b o = untouched (k (word_at at w p)) w h.1 q b o
  untouched (write8 p v k) w h q b o =
      untouched k (put_byte at w p v) h.1 q b o
      ∙ byte_at-other at w p v q (off_byte at p q (low p h.0) b (λ e. o (rw e h.0)))
  untouched (write32 p v k) w h q b o =
      untouched k (put_word at w p v) h.1 q b o ∙ put_bytes-off 4 at w p v q (off_four p q h.0 b o)
  untouched (write_privileged p v k) w h q b o =
      untouched k (put_privileged at w p v) h.1 q b o ∙ put_privileged-off at w p v q (off_four p q h.0 b o)

module _ (S : ℕ → Type 0) (at : ℕ) where
  pub within_bind
      : {A B : Type 0} (m : Prog A) (f : A → Prog B) (w : List ℕ) → Within S at m w → Within S at (f (run at m w).0) (run at m w).1
      → Within S at (m >>= f) w
  unfolding run Within ◌>>=◌
  within_bind (ret a) f w h g = g
  within_bind (read8 p k) f w h g = (h.0, within_bind (k (byte_at at w p)) f w h.1 g)
  within_bind (read32 p k) f w h g = (h.0, within_bind (k (word_at at w p)) f w h.1 g)
  within_bind (write8 p v k) f w h g = (h.0, within_bind k f (put_byte at w p v) h.1 g)
  within_bind (write32 p v k) f w h g = (h.0, within_bind k f (put_word at w p v) h.1 g)
  within_bind (write_privileged p v k) f w h g = (h.0, within_bind k f (put_privileged at w p v) h.1 g)

  pub Within-wider
      : {A : Type 0} (T : ℕ → Type 0) → ((q : ℕ) → S q → T q) → (m : Prog A) (w : List ℕ) → Within S at m w → Within T at m w
  unfolding Within
  Within-wider T i (ret a) w h = tt
  Within-wider T i (read8 p k) w h = (i p h.0, Within-wider T i (k (byte_at at w p)) w h.1)
  Within-wider T i (read32 p k) w h = ((λ j l. i (p + j) (h.0 j l)), Within-wider T i (k (word_at at w p)) w h.1)
  Within-wider T i (write8 p v k) w h = (i p h.0, Within-wider T i k (put_byte at w p v) h.1)
  Within-wider T i (write32 p v k) w h = ((λ j l. i (p + j) (h.0 j l)), Within-wider T i k (put_word at w p v) h.1)
  Within-wider T i (write_privileged p v k) w h = ((λ j l. i (p + j) (h.0 j l)), Within-wider T i k (put_privileged at w p v) h.1)

  -- a loop lies in S if each turn does, under what the turns before it kept
  pub within-loop
      : {A : Type 0} (body : ℕ → A → Prog A) (I : ℕ → A → List ℕ → Type 0) (i n : ℕ) (a : A) (w : List ℕ)
      → ((j : ℕ) (b : A) (v : List ℕ) → i ≤ j → j < i + n → I j b v
      → Within S at (body j b) v × I (suc j) (run at (body j b) v).0 (run at (body j b) v).1)
      → I i a w → Within S at (loop body i n a) w
  unfolding loop Within
  within-loop body I i zero a w step h = tt
  within-loop body I i (suc n) a w step h =
      let s = step i a w (omega arith) (omega arith) h in
      within_bind (body i a) (λ b. loop body (suc i) n b) w s.0
      (within-loop body I (suc i) n (run at (body i a) w).0 (run at (body i a) w).1
      (λ j b v l m g. step j b v (omega arith) (omega arith) g)
      s.1)
