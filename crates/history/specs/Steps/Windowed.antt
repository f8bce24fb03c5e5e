-- From plain bytes to a window, and from one memory to another that agrees on S.
use Rattle.std.specs.Prelude.{ℕ, ◌+◌, ◌≡◌, refl, List, length}
use Rattle.std.proofs.Common.{sym, ◌∙◌}
use Rattle.std.proofs.Math.Path.{subst}
use Rattle.std.proofs.Math.Decide.{ℕ_discrete}
use Rattle.window.specs.Memory.{byte_at, word_at, put_byte, put_word, put_privileged}
use Rattle.window.specs.Bytes.{length-put_byte, length-put_word, length-put_privileged}
use Rattle.window.specs.Access.{Prog, ret, read8, read32, write8, write32, write_privileged, put8, put32, put32_privileged, run}
use Rattle.window.specs.Within.{In, dec_in, in_range, Within, Lies, Agree, Untouched, untouched}
use Rattle.window.specs.Mirror.{word, put1, put4, run_m, word_same, word_at-word, put1_on, put1-off, put4_on, put4-off, mirror}
use Rattle.history.specs.Steps.Wp.{Memory, WithinM, Does}

module _ (S : ℕ → Type 0) (at n : ℕ) (fit : Lies S at n) where
  -- accesses that lie in S on plain bytes lie there in a window that agrees with them
  pub within_window
      : {A : Type 0} (m : Prog A) (w : List ℕ) (M : Memory) → length w ≡ n → WithinM S m M → Agree S (byte_at at w) M → Within S at m w
  unfolding WithinM Within run run_m
  within_window (ret a) w M l h g = tt
  within_window (read8 p k) w M l h g = (h.0, within_window (k (byte_at at w p)) w M l (rw (g p h.0) h.1) g)
  within_window (read32 p k) w M l h g =
      let e : word_at at w p ≡ word M p = word_at-word at w p ∙ word_same (byte_at at w) M p (λ j x. g (p + j) (h.0 j x)) in
      (h.0, within_window (k (word_at at w p)) w M l (rw e h.1) g)
  within_window (write8 p v k) w M l h g = (
    h.0,
    within_window k (put_byte at w p v) (put1 M p v) (length-put_byte at w p v ∙ l) h.1 (mirror S at n fit (put8 p v) w M l (h.0, tt) g).1,
  )
  within_window (write32 p v k) w M l h g = (
    h.0,
    within_window k (put_word at w p v) (put4 M p v) (length-put_word at w p v ∙ l) h.1 (mirror S at n fit (put32 p v) w M l (h.0, tt) g).1,
  )
  within_window (write_privileged p v k) w M l h g = (
    h.0,
    within_window k (put_privileged at w p v) (put4 M p v) (length-put_privileged at w p v ∙ l) h.1
        (mirror S at n fit (put32_privileged p v) w M l (h.0, tt) g).1,
  )

  -- what a program does to the bytes, it does in the window, and nothing off S
  pub record Windowed {A : Type 0} (m : Prog A) (w : List ℕ) (M : Memory) : Type 0 where
    pub same : (run at m w).0 ≡ (run_m m M).0
    pub agree : Agree S (byte_at at (run at m w).1) (run_m m M).1
    pub off : Untouched S (byte_at at w) (byte_at at (run at m w).1)

  pub windowed
      : {A : Type 0} (m : Prog A) {Q : A → Memory → Type 0} (w : List ℕ) {M : Memory} → length w ≡ n → Agree S (byte_at at w) M → Does S m Q M
      → Windowed m w M
  windowed m w {M} l g h =
      let i = within_window m w M l h.lies g in
      let k = mirror S at n fit m w M l i g in
      record { same = k.0; agree = k.1; off = untouched S at (λ q s. (fit q s).0) m w i }

module _ (S : ℕ → Type 0) where
  put1_agree : (M N : Memory) (p v : ℕ) → Agree S M N → Agree S (put1 M p v) (put1 N p v)
  put1_agree M N p v g q s = go (ℕ_discrete q p)
    where
      go : Dec (q ≡ p) → put1 M p v q ≡ put1 N p v q
      go (yes e) = rw e (put1_on M p v ∙ sym (put1_on N p v))
      go (no o) = put1-off M p v q o ∙ g q s ∙ sym (put1-off N p v q o)

  put4_agree : (M N : Memory) (p v : ℕ) → Agree S M N → Agree S (put4 M p v) (put4 N p v)
  put4_agree M N p v g q s = go (dec_in p 4 q)
    where
      go : Dec (In p 4 q) → put4 M p v q ≡ put4 N p v q
      go (yes i) = in_range (λ x. put4 M p v x ≡ put4 N p v x) p 4 q i (λ k l. put4_on M p v k l ∙ sym (put4_on N p v k l))
      go (no o) = put4-off M p v q o ∙ g q s ∙ sym (put4-off N p v q o)

  abbrev SameResult : {A : Type 0} → Prog A → Memory → Prog A → Memory → Type 0
  SameResult m M k N = ((run_m m M).0 ≡ (run_m k N).0) × Agree S (run_m m M).1 (run_m k N).1

  -- only the bytes in S matter
  pub same_on : {A : Type 0} (m : Prog A) (M N : Memory) → WithinM S m M → Agree S M N → SameResult m M m N
  unfolding WithinM run_m
  same_on (ret a) M N h g = (refl, g)
  same_on (read8 p k) M N h g = subst (λ v. SameResult (k (M p)) M (k v) N) (g p h.0) (same_on (k (M p)) M N h.1 g)
  same_on (read32 p k) M N h g =
      subst (λ v. SameResult (k (word M p)) M (k v) N) (word_same M N p (λ j x. g (p + j) (h.0 j x))) (same_on (k (word M p)) M N h.1 g)
  same_on (write8 p v k) M N h g = same_on k (put1 M p v) (put1 N p v) h.1 (put1_agree M N p v g)
  same_on (write32 p v k) M N h g = same_on k (put4 M p v) (put4 N p v) h.1 (put4_agree M N p v g)
  same_on (write_privileged p v k) M N h g = same_on k (put4 M p v) (put4 N p v) h.1 (put4_agree M N p v g)
