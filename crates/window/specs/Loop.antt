-- A counted loop of programs: `body i`, `body (i + 1)`, .., n of them, each handed what the one before gave.
use Rattle.std.specs.Prelude.{◌≡◌, ℕ, zero, suc, ◌+◌, ◌-◌, ◌<◌, ◌≤◌, List}
use Rattle.std.proofs.Math.Path.{refl}
use native.Mathlib.Omega.{arith}
use Rattle.window.specs.Access.{Prog, ret, ◌>>=◌, run, run_bind, Reads, reads_bind}

unfoldable pub loop : {A : Type 0} → (ℕ → A → Prog A) → ℕ → ℕ → A → Prog A
loop body i zero a = ret a
loop body i (suc n) a = do
  b ← body i a
  loop body (suc i) n b

module _ {A : Type 0} (at : ℕ) (body : ℕ → A → Prog A) where
  pub loop_none : (i : ℕ) (a : A) (w : List ℕ) → run at (loop body i 0 a) w ≡ (a, w)
  unfolding loop run
  loop_none i a w = refl

  pub loop-more
      : (i n : ℕ) (a : A) (w : List ℕ)
      → run at (loop body i (suc n) a) w ≡ run at (loop body (suc i) n (run at (body i a) w).0) (run at (body i a) w).1
  unfolding loop
  loop-more i n a w = run_bind at (body i a) (λ b. loop body (suc i) n b) w

  -- as code counts: i turns of n made, none or one left to make
  pub loop_end : (i n : ℕ) (a : A) (w : List ℕ) → n ≤ i → run at (loop body i (n - i) a) w ≡ (a, w)
  loop_end i n a w h = let z : n - i ≡ 0 = omega arith in rw z (loop_none i a w)

  pub loop-turn
      : (i n : ℕ) (a : A) (w : List ℕ) → i < n
      → run at (loop body i (n - i) a) w ≡ run at (loop body (i + 1) (n - (i + 1)) (run at (body i a) w).0) (run at (body i a) w).1
  loop-turn i n a w h =
      let s : n - i ≡ suc (n - (i + 1)) = omega arith in
      let t : suc i ≡ i + 1 = omega arith in
      rw (s, ← t) (loop-more i (n - suc i) a w)

  -- what every turn keeps, the loop keeps
  pub loop_keeps
      : (I : ℕ → A → List ℕ → Type 0) (i n : ℕ) (a : A) (w : List ℕ)
      → ((j : ℕ) (b : A) (v : List ℕ) → i ≤ j → j < i + n → I j b v → I (suc j) (run at (body j b) v).0 (run at (body j b) v).1)
      → I i a w → I (i + n) (run at (loop body i n a) w).0 (run at (loop body i n a) w).1
  unfolding loop run
  loop_keeps I i zero a w step h = let e : i + 0 ≡ i = omega arith in rw e h
  loop_keeps I i (suc n) a w step h =
      let e : i + suc n ≡ suc i + n = omega arith in
      rw (e, run_bind)
      (loop_keeps I (suc i) n (run at (body i a) w).0 (run at (body i a) w).1
      (λ j b v l m g. step j b v (omega arith) (omega arith) g)
      (step i a w (omega arith) (omega arith) h))

pub loop_reads
    : {A : Type 0} (body : ℕ → A → Prog A) (i n : ℕ) (a : A) → ((j : ℕ) (b : A) → Reads (body j b)) → Reads (loop body i n a)
unfolding loop Reads
loop_reads body i zero a h = tt
loop_reads body i (suc n) a h =
    reads_bind (body i a) (λ b. loop body (suc i) n b) (h i a) (λ b. loop_reads body (suc i) n b h)
