-- A program's run over a window and a trace: what `run` gives, and the first access with a byte outside the window.
-- The trace is a byte list of four words: word 1 says whether there was such an access, word 2 where it started.
use Rattle.std.specs.Prelude.{if◌then◌else◌, ◌≡◌, ℕ, zero, suc, ◌+◌, ◌/◌, Bool, true, false, not, ◌||◌, List, length, ◌==◌, nat_lt}
use Rattle.std.proofs.Math.Path.{refl}
use Rattle.window.specs.Memory.{place, inside, byte_at, word_at, put_byte, put_bytes, put_word, put_upward, put_privileged}
use Rattle.window.specs.Access.{Prog, ret, read8, read32, write8, write32, write_privileged, ◌>>=◌}

-- the window, then the trace
abbrev pub State : Type 0
State = List ℕ × List ℕ

-- some of the k bytes from x on are none of the n from `at` on
unfoldable pub outside : (at n x count : ℕ) → Bool
outside at n x zero = false
outside at n x (suc k) = not (nat_lt (place at x) n) || outside at n (x + 1) k

unfoldable pub said : List ℕ → Bool
said t = not (word_at 0 t 4 == 0)

-- an access from x on that is not all inside: the first is kept
unfoldable pub noted : ℕ → List ℕ → List ℕ
noted x t = if said t then t else put_word 0 (put_word 0 t 4 1) 8 x

-- an access of k bytes from x on
unfoldable pub saw : (at n x k : ℕ) → List ℕ → List ℕ
saw at n x k t = if outside at n x k then noted x t else t

unfoldable pub touch_of : List ℕ → ℕ × ℕ
touch_of t = (word_at 0 t 4, word_at 0 t 8)

module _ (at : ℕ) where
  abbrev pub seen : State → ℕ → ℕ → State
  seen s x k = (s.0, saw at (length s.0) x k s.1)

  -- one byte stored
  unfoldable pub store_t : State → ℕ → ℕ → State
  store_t s x v = (put_byte at s.0 x v, s.1)

  unfoldable pub stores_t : (count : ℕ) → State → (x v : ℕ) → State
  stores_t zero s x v = s
  stores_t (suc n) s x v = stores_t n (store_t s x v) (x + 1) (v / 256)

  unfoldable pub upward_t : (count : ℕ) → State → (x v : ℕ) → State
  upward_t zero s x v = s
  upward_t (suc n) s x v = if inside at s.0 x then upward_t n (store_t s x v) (x + 1) (v / 256) else s

  -- the five accesses
  unfoldable pub rd8 : State → ℕ → ℕ × State
  rd8 s x = (byte_at at s.0 x, seen s x 1)

  unfoldable pub rd32 : State → ℕ → ℕ × State
  rd32 s x = (word_at at s.0 x, seen s x 4)

  unfoldable pub wr8 : State → ℕ → ℕ → State
  wr8 s x v = store_t (seen s x 1) x v

  unfoldable pub wr32 : State → ℕ → ℕ → State
  wr32 s x v = stores_t 4 (seen s x 4) x v

  unfoldable pub wr_p : State → ℕ → ℕ → State
  wr_p s x v = upward_t 4 (seen s x 4) x v

  unfoldable pub run_t : {A : Type 0} → Prog A → State → A × State
  run_t (ret a) s = (a, s)
  run_t (read8 p k) s = run_t (k (rd8 s p).0) (rd8 s p).1
  run_t (read32 p k) s = run_t (k (rd32 s p).0) (rd32 s p).1
  run_t (write8 p v k) s = run_t k (wr8 s p v)
  run_t (write32 p v k) s = run_t k (wr32 s p v)
  run_t (write_privileged p v k) s = run_t k (wr_p s p v)

  pub run_t_bind
      : {A B : Type 0} (m : Prog A) (f : A → Prog B) (s : State) → run_t (m >>= f) s ≡ run_t (f (run_t m s).0) (run_t m s).1
  unfolding run_t ◌>>=◌
  run_t_bind (ret a) f s = refl
  run_t_bind (read8 p k) f s = run_t_bind (k (rd8 s p).0) f (rd8 s p).1
  run_t_bind (read32 p k) f s = run_t_bind (k (rd32 s p).0) f (rd32 s p).1
  run_t_bind (write8 p v k) f s = run_t_bind k f (wr8 s p v)
  run_t_bind (write32 p v k) f s = run_t_bind k f (wr32 s p v)
  run_t_bind (write_privileged p v k) f s = run_t_bind k f (wr_p s p v)

  -- without a log the stores are those of `run`
  pub stores_t-put : (n : ℕ) (w t : List ℕ) (x v : ℕ) → stores_t n (w, t) x v ≡ (put_bytes n at w x v, t)
  unfolding stores_t store_t put_bytes
  stores_t-put zero w t x v = refl
  stores_t-put (suc n) w t x v = stores_t-put n (put_byte at w x v) t (x + 1) (v / 256)

  upward_t-step
      : (b : Bool) (s : State) (u : List ℕ) (t : List ℕ) (r : List ℕ) → s ≡ (u, t)
      → (if b then s else (r, t)) ≡ ((if b then u else r), t)
  upward_t-step true s u t r e = e
  upward_t-step false s u t r e = refl

  pub upward_t-put : (n : ℕ) (w t : List ℕ) (x v : ℕ) → upward_t n (w, t) x v ≡ (put_upward n at w x v, t)
  unfolding upward_t store_t put_upward
  upward_t-put zero w t x v = refl
  upward_t-put (suc n) w t x v =
      upward_t-step (inside at w x) _ _ t w (upward_t-put n (put_byte at w x v) t (x + 1) (v / 256))

  pub wr32-put : (w t : List ℕ) (x v : ℕ) → wr32 (w, t) x v ≡ (put_word at w x v, saw at (length w) x 4 t)
  unfolding wr32 put_word
  wr32-put w t x v = stores_t-put 4 w (saw at (length w) x 4 t) x v

  pub wr_p-put : (w t : List ℕ) (x v : ℕ) → wr_p (w, t) x v ≡ (put_privileged at w x v, saw at (length w) x 4 t)
  unfolding wr_p put_privileged
  wr_p-put w t x v = upward_t-put 4 w (saw at (length w) x 4 t) x v
