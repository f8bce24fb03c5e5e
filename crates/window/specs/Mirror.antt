-- Programs on plain bytes, `ℕ → ℕ`, with no window: a run in S is the same there.
use Rattle.std.specs.Prelude.{if◌then◌else◌, ◌≡◌, ℕ, ◌+◌, ◌-◌, ◌%◌, ◌<◌, ltb, ◌≢◌, List, length, ◌==◌, nat_lt, refl}
use Rattle.std.proofs.Math.Path.{sym, subst}
use Rattle.std.proofs.Common.{◌∙◌, arith, lit<, eq-eqb, ne_eqb, lt-ltb, le-ltb}
use Rattle.std.proofs.Math.Decide.{dec_lt, ℕ_discrete}
use Rattle.window.specs.Memory.{byte_at, word_at, put_byte, put_word, put_privileged}
use Rattle.window.specs.Bytes.{byte_of, join, join-at, byte_at-same, byte_at-other, put_bytes_on}
use Rattle.window.specs.Bytes.{length-put_byte, length-put_word, length-put_privileged}
use Rattle.window.specs.Access.{Prog, ret, read8, read32, write8, write32, write_privileged, run}
use Rattle.window.specs.Within.{In, dec_in, in_range, off_byte, Four, Within, Lies, Agree, four_privileged, word-off}

-- the word at p
unfoldable pub word : (ℕ → ℕ) → ℕ → ℕ
word M p = join (M p) (M (p + 1)) (M (p + 2)) (M (p + 3))

unfoldable pub put1 : (ℕ → ℕ) → (p v q : ℕ) → ℕ
put1 M p v q = if q == p then v % 256 else M q

unfoldable pub put4 : (ℕ → ℕ) → (p v q : ℕ) → ℕ
put4 M p v q = if nat_lt q p then M q else (if ltb q (p + 4) then byte_of (q - p) v else M q)

unfoldable pub run_m : {A : Type 0} → Prog A → (ℕ → ℕ) → A × (ℕ → ℕ)
run_m (ret a) M = (a, M)
run_m (read8 p k) M = run_m (k (M p)) M
run_m (read32 p k) M = run_m (k (word M p)) M
run_m (write8 p v k) M = run_m k (put1 M p v)
run_m (write32 p v k) M = run_m k (put4 M p v)
run_m (write_privileged p v k) M = run_m k (put4 M p v)

-- equal bytes give equal words
pub word_same : (M N : ℕ → ℕ) (p : ℕ) → ((k : ℕ) → k < 4 → M (p + k) ≡ N (p + k)) → word M p ≡ word N p
unfolding word
word_same M N p h = join-at M (λ k. N (p + k)) p h ∙ sym (join-at N (λ k. N (p + k)) p (λ k l. refl))

pub word_at-word : (at : ℕ) (w : List ℕ) (p : ℕ) → word_at at w p ≡ word (byte_at at w) p
unfolding word_at word
word_at-word at w p = refl

pub put1_on : (M : ℕ → ℕ) (p v : ℕ) → put1 M p v p ≡ v % 256
unfolding put1
put1_on M p v = rw (eq-eqb p p refl)

pub put1-off : (M : ℕ → ℕ) (p v q : ℕ) → q ≢ p → put1 M p v q ≡ M q
unfolding put1
put1-off M p v q e = rw (ne_eqb q p e)

pub put4_on : (M : ℕ → ℕ) (p v k : ℕ) → k < 4 → put4 M p v (p + k) ≡ byte_of k v
unfolding put4
put4_on M p v k h =
    let e : p + k - p ≡ k = omega arith in
    rw (le-ltb (p + k) p (omega arith), lt-ltb (p + k) (p + 4) (omega arith), e)

pub put4-off : (M : ℕ → ℕ) (p v q : ℕ) → (In p 4 q → ⊥) → put4 M p v q ≡ M q
unfolding put4
put4-off M p v q o = go (dec_lt q p) (dec_lt q (p + 4))
  where
    go : Dec (q < p) → Dec (q < p + 4) → (if ltb q p then M q else (if ltb q (p + 4) then byte_of (q - p) v else M q)) ≡ M q
    go (yes a) b = rw (lt-ltb q p a)
    go (no a) (yes b) = absurd (o (omega arith, b))
    go (no a) (no b) = rw (le-ltb q p (omega arith), le-ltb q (p + 4) (omega arith))

module _ (S : ℕ → Type 0) (at n : ℕ) (fit : Lies S at n) where
  byte_mirrored
      : (p v : ℕ) (w : List ℕ) (M : ℕ → ℕ) → length w ≡ n → S p → Agree S (byte_at at w) M
      → Agree S (byte_at at (put_byte at w p v)) (put1 M p v)
  byte_mirrored p v w M l s g q t = go (ℕ_discrete q p)
    where
      go : Dec (q ≡ p) → byte_at at (put_byte at w p v) q ≡ put1 M p v q
      go (yes e) = rw e (byte_at-same at w p v (rw l (fit p s).1) ∙ sym (put1_on M p v))
      go (no m) =
          byte_at-other at w p v q (off_byte at p q (fit p s).0 (fit q t).0 m)
          ∙ g q t
          ∙ sym (put1-off M p v q m)

  word_mirrored
      : (p v : ℕ) (w : List ℕ) (M : ℕ → ℕ) → length w ≡ n → Four S p → Agree S (byte_at at w) M
      → Agree S (byte_at at (put_word at w p v)) (put4 M p v)
  unfolding put_word
  word_mirrored p v w M l s g q t = go (dec_in p 4 q)
    where
      go : Dec (In p 4 q) → byte_at at (put_word at w p v) q ≡ put4 M p v q
      go (yes i) =
          in_range (λ x. byte_at at (put_word at w p v) x ≡ put4 M p v x) p 4 q i
          (λ k h. put_bytes_on 4 k at w p v h (lit< tt) (rw l (fit (p + k) (s k h)).1) ∙ sym (put4_on M p v k h))
      go (no m) =
          word-off S at (λ r u. (fit r u).0) p v w s q (fit q t).0 m
          ∙ g q t
          ∙ sym (put4-off M p v q m)

  -- what m gives, and the bytes in S that it leaves
  abbrev pub Mirrored : {A : Type 0} → Prog A → List ℕ → Prog A → (ℕ → ℕ) → Type 0
  Mirrored m w m' M = ((run at m w).0 ≡ (run_m m' M).0) × Agree S (byte_at at (run at m w).1) (run_m m' M).1

  pub mirror
      : {A : Type 0} (m : Prog A) (w : List ℕ) (M : ℕ → ℕ) → length w ≡ n → Within S at m w → Agree S (byte_at at w) M → Mirrored m w m M
  unfolding run run_m Within
  mirror (ret a) w M l h g = (refl, g)
  mirror (read8 p k) w M l h g =
      subst (λ v. Mirrored (k (byte_at at w p)) w (k v) M) (g p h.0) (mirror (k (byte_at at w p)) w M l h.1 g)
  mirror (read32 p k) w M l h g =
      let e : word_at at w p ≡ word M p = word_at-word at w p ∙ word_same (byte_at at w) M p (λ j x. g (p + j) (h.0 j x)) in
      subst (λ v. Mirrored (k (word_at at w p)) w (k v) M) e (mirror (k (word_at at w p)) w M l h.1 g)
  mirror (write8 p v k) w M l h g =
      mirror k (put_byte at w p v) (put1 M p v) (length-put_byte at w p v ∙ l) h.1 (byte_mirrored p v w M l h.0 g)
  mirror (write32 p v k) w M l h g =
      mirror k (put_word at w p v) (put4 M p v) (length-put_word at w p v ∙ l) h.1 (word_mirrored p v w M l h.0 g)
  mirror (write_privileged p v k) w M l h g =
      let e : put_privileged at w p v ≡ put_word at w p v = four_privileged S at n fit p v w l h.0 in
      mirror k (put_privileged at w p v) (put4 M p v) (length-put_privileged at w p v ∙ l) h.1 (rw e (word_mirrored p v w M l h.0 g))
