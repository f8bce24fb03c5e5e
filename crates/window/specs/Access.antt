-- A program over a window: its accesses in their order, and what it does with what it read.
-- The definition of every step that touches the window is such a program; `run` is what it gives, and the window that it leaves.
use Rattle.std.specs.Prelude.{◌≡◌, ℕ, List, length}
use Rattle.std.proofs.Math.Path.{refl}
use Rattle.std.proofs.Common.{◌∙◌}
use Rattle.window.specs.Memory.{byte_at, word_at, put_byte, put_word, put_privileged}
use Rattle.window.specs.Bytes.{length-put_byte, put_bytes_keeps, put_upward_keeps}

infixl 10 ◌>>=◌
infixl 10 ◌>>◌
pub data Prog (A : Type 0) : Type 0 where
  ret : A → Prog A
  read8 : ℕ → (ℕ → Prog A) → Prog A
  read32 : ℕ → (ℕ → Prog A) → Prog A
  write8 : ℕ → ℕ → Prog A → Prog A
  write32 : ℕ → ℕ → Prog A → Prog A
  write_privileged : ℕ → ℕ → Prog A → Prog A

-- one program after another; `do` is made of it
unfoldable pub ◌>>=◌ : {A B : Type 0} → Prog A → (A → Prog B) → Prog B
◌>>=◌ (ret a) f = f a
◌>>=◌ (read8 p k) f = read8 p (λ v. ◌>>=◌ (k v) f)
◌>>=◌ (read32 p k) f = read32 p (λ v. ◌>>=◌ (k v) f)
◌>>=◌ (write8 p v k) f = write8 p v (◌>>=◌ k f)
◌>>=◌ (write32 p v k) f = write32 p v (◌>>=◌ k f)
◌>>=◌ (write_privileged p v k) f = write_privileged p v (◌>>=◌ k f)

abbrev pub ◌>>◌ : {A B : Type 0} → Prog A → Prog B → Prog B
◌>>◌ m k = ◌>>=◌ m (λ _. k)

-- the five accesses as programs of their own
abbrev pub get8 : ℕ → Prog ℕ
get8 p = read8 p ret

abbrev pub get32 : ℕ → Prog ℕ
get32 p = read32 p ret

abbrev pub put8 : ℕ → ℕ → Prog (Unit {0})
put8 p v = write8 p v (ret tt)

abbrev pub put32 : ℕ → ℕ → Prog (Unit {0})
put32 p v = write32 p v (ret tt)

abbrev pub put32_privileged : ℕ → ℕ → Prog (Unit {0})
put32_privileged p v = write_privileged p v (ret tt)

module _ (at : ℕ) where
  unfoldable pub run : {A : Type 0} → Prog A → List ℕ → A × List ℕ
  run (ret a) w = (a, w)
  run (read8 p k) w = run (k (byte_at at w p)) w
  run (read32 p k) w = run (k (word_at at w p)) w
  run (write8 p v k) w = run k (put_byte at w p v)
  run (write32 p v k) w = run k (put_word at w p v)
  run (write_privileged p v k) w = run k (put_privileged at w p v)

  pub run_bind
      : {A B : Type 0} (m : Prog A) (f : A → Prog B) (w : List ℕ) → run (m >>= f) w ≡ run (f (run m w).0) (run m w).1
  unfolding run ◌>>=◌
  run_bind (ret a) f w = refl
  run_bind (read8 p k) f w = run_bind (k (byte_at at w p)) f w
  run_bind (read32 p k) f w = run_bind (k (word_at at w p)) f w
  run_bind (write8 p v k) f w = run_bind k f (put_byte at w p v)
  run_bind (write32 p v k) f w = run_bind k f (put_word at w p v)
  run_bind (write_privileged p v k) f w = run_bind k f (put_privileged at w p v)

  -- what every byte write keeps, every run keeps: as the length
  pub run_keeps
      : {A : Type 0} (P : List ℕ → Type 0) → ((u : List ℕ) (y z : ℕ) → P u → P (put_byte at u y z)) → (m : Prog A) (w : List ℕ)
      → P w → P (run m w).1
  unfolding run put_word put_privileged
  run_keeps P kept (ret a) w h = h
  run_keeps P kept (read8 p k) w h = run_keeps P kept (k (byte_at at w p)) w h
  run_keeps P kept (read32 p k) w h = run_keeps P kept (k (word_at at w p)) w h
  run_keeps P kept (write8 p v k) w h = run_keeps P kept k (put_byte at w p v) (kept w p v h)
  run_keeps P kept (write32 p v k) w h = run_keeps P kept k (put_word at w p v) (put_bytes_keeps P at kept 4 w p v h)
  run_keeps P kept (write_privileged p v k) w h =
      run_keeps P kept k (put_privileged at w p v) (put_upward_keeps P at kept 4 w p v h)

  pub length_run : {A : Type 0} (m : Prog A) (w : List ℕ) → length (run m w).1 ≡ length w
  length_run m w = run_keeps (λ u. length u ≡ length w) (λ u y z e. length-put_byte at u y z ∙ e) m w refl

-- a program that writes nothing, whatever it reads
unfoldable pub Reads : {A : Type 0} → Prog A → Type 0
Reads (ret a) = Unit {0}
Reads (read8 p k) = (v : ℕ) → Reads (k v)
Reads (read32 p k) = (v : ℕ) → Reads (k v)
Reads (write8 p v k) = ⊥
Reads (write32 p v k) = ⊥
Reads (write_privileged p v k) = ⊥

pub reads_bind : {A B : Type 0} (m : Prog A) (f : A → Prog B) → Reads m → ((a : A) → Reads (f a)) → Reads (m >>= f)
unfolding Reads ◌>>=◌
reads_bind (ret a) f h g = g a
reads_bind (read8 p k) f h g = λ v. reads_bind (k v) f (h v) g
reads_bind (read32 p k) f h g = λ v. reads_bind (k v) f (h v) g
reads_bind (write8 p v k) f h g = absurd h
reads_bind (write32 p v k) f h g = absurd h
reads_bind (write_privileged p v k) f h g = absurd h

-- it leaves the window as it was
pub reads_same : {A : Type 0} (at : ℕ) (m : Prog A) (w : List ℕ) → Reads m → (run at m w).1 ≡ w
unfolding Reads run
reads_same at (ret a) w h = refl
reads_same at (read8 p k) w h = reads_same at (k (byte_at at w p)) w (h (byte_at at w p))
reads_same at (read32 p k) w h = reads_same at (k (word_at at w p)) w (h (word_at at w p))
reads_same at (write8 p v k) w h = absurd h
reads_same at (write32 p v k) w h = absurd h
reads_same at (write_privileged p v k) w h = absurd h
