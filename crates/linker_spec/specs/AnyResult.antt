-- What a program may answer, whatever it reads.
use Prim.Native.Nat.{ℕ, zero, suc}
use Rattle.std.specs.Prelude.{if◌then◌else◌, ◌≡◌, refl, List, Bool, true, false}
use Rattle.std.proofs.Common.{sym, subst}
use Rattle.window.specs.Memory.{byte_at, word_at, put_byte, put_word, put_privileged}
use Rattle.window.specs.Access.{Prog, ret, read8, read32, write8, write32, write_privileged, ◌>>=◌, run, run_bind}
use Rattle.window.specs.Loop.{loop}
use Rattle.window.specs.Small.{Bytes, run-bytes}

unfoldable pub AnyResult : {A : Type 0} → (A → Type 0) → Prog A → Type 0
AnyResult P (ret a) = P a
AnyResult P (read8 p k) = (v : ℕ) → AnyResult P (k v)
AnyResult P (read32 p k) = (v : ℕ) → AnyResult P (k v)
AnyResult P (write8 p v k) = AnyResult P k
AnyResult P (write32 p v k) = AnyResult P k
AnyResult P (write_privileged p v k) = AnyResult P k

pub gives_run : {A : Type 0} (P : A → Type 0) (at : ℕ) (m : Prog A) (w : List ℕ) → AnyResult P m → P (run at m w).0
unfolding AnyResult run
gives_run P at (ret a) w h = h
gives_run P at (read8 p k) w h = gives_run P at (k (byte_at at w p)) w (h (byte_at at w p))
gives_run P at (read32 p k) w h = gives_run P at (k (word_at at w p)) w (h (word_at at w p))
gives_run P at (write8 p v k) w h = gives_run P at k (put_byte at w p v) h
gives_run P at (write32 p v k) w h = gives_run P at k (put_word at w p v) h
gives_run P at (write_privileged p v k) w h = gives_run P at k (put_privileged at w p v) h

module _ {A B : Type 0} (Q : A → Type 0) (P : B → Type 0) (f : A → Prog B) where
  pub gives_bind : (m : Prog A) → AnyResult Q m → ((a : A) → Q a → AnyResult P (f a)) → AnyResult P (m >>= f)
  unfolding AnyResult ◌>>=◌
  gives_bind (ret a) h g = g a h
  gives_bind (read8 p k) h g = λ v. gives_bind (k v) (h v) g
  gives_bind (read32 p k) h g = λ v. gives_bind (k v) (h v) g
  gives_bind (write8 p v k) h g = gives_bind k h g
  gives_bind (write32 p v k) h g = gives_bind k h g
  gives_bind (write_privileged p v k) h g = gives_bind k h g

-- whatever the first program answers
pub gives_then : {A B : Type 0} (P : B → Type 0) (f : A → Prog B) (m : Prog A) → ((a : A) → AnyResult P (f a)) → AnyResult P (m >>= f)
unfolding AnyResult ◌>>=◌
gives_then P f (ret a) g = g a
gives_then P f (read8 p k) g = λ v. gives_then P f (k v) g
gives_then P f (read32 p k) g = λ v. gives_then P f (k v) g
gives_then P f (write8 p v k) g = gives_then P f k g
gives_then P f (write32 p v k) g = gives_then P f k g
gives_then P f (write_privileged p v k) g = gives_then P f k g

pub gives_if : {A : Type 0} (P : A → Type 0) (b : Bool) (p q : Prog A) → AnyResult P p → AnyResult P q → AnyResult P (if b then p else q)
gives_if P true p q h g = h
gives_if P false p q h g = g

-- What a program answers on a window of bytes.
module _ (at : ℕ) where
  abbrev pub Yields : {A : Type 0} → (A → Type 0) → Prog A → Type 0
  Yields P m = (w : List ℕ) → Bytes w → P (run at m w).0

  pub yields_ret : {A : Type 0} (P : A → Type 0) (a : A) → P a → Yields P (ret a)
  unfolding run
  yields_ret P a h w b = h

  pub yields_bind
      : {A B : Type 0} (Q : A → Type 0) (P : B → Type 0) (m : Prog A) (f : A → Prog B) → Yields Q m → ((a : A) → Q a → Yields P (f a))
      → Yields P (m >>= f)
  yields_bind {A} {B} Q P m f h g w b =
      subst (λ (x : B × List ℕ). P x.0) (sym (run_bind at m f w)) (g (run at m w).0 (h w b) (run at m w).1 (run-bytes at m w b))

  -- whatever the first one answers
  pub yields_then : {A B : Type 0} (P : B → Type 0) (m : Prog A) (f : A → Prog B) → ((a : A) → Yields P (f a)) → Yields P (m >>= f)
  yields_then P m f g = yields_bind (λ _. Unit {0}) P m f (λ w b. tt) (λ a _. g a)

  pub yields_if
      : {A : Type 0} (P : A → Type 0) (t : Bool) (p q : Prog A) → (t ≡ true → Yields P p) → (t ≡ false → Yields P q)
      → Yields P (if t then p else q)
  yields_if P true p q h g = h refl
  yields_if P false p q h g = g refl

  pub yields_loop
      : {A : Type 0} (P : A → Type 0) (body : ℕ → A → Prog A) → ((i : ℕ) (a : A) → P a → Yields P (body i a)) → (i n : ℕ) (a : A) → P a
      → Yields P (loop body i n a)
  unfolding loop
  yields_loop P body h i zero a p = yields_ret P a p
  yields_loop P body h i (suc n) a p =
      yields_bind P P (body i a) (λ c. loop body (suc i) n c) (h i a p) (λ c q. yields_loop P body h (suc i) n c q)
