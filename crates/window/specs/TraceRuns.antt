-- Runs over a window and a trace as code makes them: one program after another, a test, a counted loop turn by turn.
use Rattle.std.specs.Prelude.{if◌then◌else◌, ◌≡◌, ℕ, suc, ◌+◌, ◌-◌, ◌<◌, ◌≤◌, Bool, true, false, List, ◌≢◌, nat_eq, refl}
use Rattle.std.proofs.Common.{sym, ap, ◌∙◌, eq-eqb, ne_eqb}
use native.Mathlib.Omega.{arith}
use Rattle.window.specs.Access.{Prog, ret, ◌>>=◌, ◌>>◌}
use Rattle.window.specs.Loop.{loop}
use Rattle.window.specs.Trace.{State, run_t, run_t_bind}

-- the state that a run leaves
abbrev pub left : {A : Type 0} → A × State → State
left r = r.1

-- window and trace as two paths of the code meet
pub joined : {w w₁ t t₁ : List ℕ} → w ≡ w₁ → t ≡ t₁ → ◌≡◌ {A = State} (w, t) (w₁, t₁)
joined e f = rw (e, f)

pub given : {A : Type 0} (at : ℕ) (a : A) (s : State) → (a, s) ≡ run_t at (ret a) s
unfolding run_t
given at a s = refl

-- what is left to make gives what the whole gives
module _ {A B : Type 0} (at : ℕ) (m : Prog A) (s : State) where
  pub gives : (f : A → Prog B) {a : A} {u : State} → (a, u) ≡ run_t at m s → run_t at (f a) u ≡ run_t at (m >>= f) s
  gives f h = ap (λ (r : A × State). run_t at (f r.0) r.1) h ∙ sym (run_t_bind at m f s)

  pub seq : (q : Prog B) {u : State} → u ≡ (run_t at m s).1 → run_t at q u ≡ run_t at (m >> q) s
  seq q h = ap (λ u. run_t at q u) h ∙ sym (run_t_bind at m (λ _. q) s)

  -- the same, where only the state counts
  pub then_it : (f : A → Prog B) {a : A} {u v : State} → (a, u) ≡ run_t at m s → v ≡ (run_t at (f a) u).1 → v ≡ (run_t at (m >>= f) s).1
  then_it f h g = g ∙ ap left (gives f h)

  pub two : (q : Prog B) {u v : State} → u ≡ (run_t at m s).1 → v ≡ (run_t at q u).1 → v ≡ (run_t at (m >> q) s).1
  two q h g = g ∙ ap left (seq q h)

-- a test whose answer is known
module _ {A : Type 0} (at : ℕ) (s : State) (p q : Prog A) {b : Bool} where
  pub on_true : b ≡ true → {r : A × State} → r ≡ run_t at p s → r ≡ run_t at (if b then p else q) s
  on_true e h = rw e h

  pub on_false : b ≡ false → {r : A × State} → r ≡ run_t at q s → r ≡ run_t at (if b then p else q) s
  on_false e h = rw e h

module _ (at : ℕ) (s : State) (a : ℕ) {b : ℕ} {v : State} (p q : Prog (Unit {0})) where
  pub pick_then : a ≡ b → v ≡ (run_t at p s).1 → v ≡ (run_t at (if nat_eq a b then p else q) s).1
  pick_then e h = rw (eq-eqb a b e) h

  pub pick_else : (a ≢ b) → v ≡ (run_t at q s).1 → v ≡ (run_t at (if nat_eq a b then p else q) s).1
  pick_else n h = rw (ne_eqb a b n) h

-- Of n turns, i are made, and what is left to make gives r, as the whole did at the start.

module _ {A : Type 0} (at : ℕ) (body : ℕ → A → Prog A) where
  pub loop_t_end : (i n : ℕ) (a : A) (s : State) → n ≤ i → run_t at (loop body i (n - i) a) s ≡ (a, s)
  unfolding loop run_t
  loop_t_end i n a s h = let z : n - i ≡ 0 = omega arith in rw z

  loop_t_more
      : (i n : ℕ) (a : A) (s : State)
      → run_t at (loop body i (suc n) a) s ≡ run_t at (loop body (suc i) n (run_t at (body i a) s).0) (run_t at (body i a) s).1
  unfolding loop
  loop_t_more i n a s = run_t_bind at (body i a) (λ b. loop body (suc i) n b) s

  pub loop_t_turn
      : (i n : ℕ) (a : A) (s : State) → i < n
      → run_t at (loop body i (n - i) a) s ≡ run_t at (loop body (i + 1) (n - (i + 1)) (run_t at (body i a) s).0) (run_t at (body i a) s).1
  loop_t_turn i n a s h =
      let z : n - i ≡ suc (n - (i + 1)) = omega arith in
      let t : suc i ≡ i + 1 = omega arith in
      rw (z, ← t) (loop_t_more i (n - suc i) a s)

-- turns that hand a value on
module _ {A : Type 0} (at : ℕ) (body : ℕ → A → Prog A) (i n : ℕ) (a : A) (s : State) {r : A × State}
    (rest : run_t at (loop body i (n - i) a) s ≡ r) where
  pub turn_made : {b : A} {v : State} → i < n → (b, v) ≡ run_t at (body i a) s → run_t at (loop body (i + 1) (n - (i + 1)) b) v ≡ r
  turn_made l h =
      ap (λ (x : A × State). run_t at (loop body (i + 1) (n - (i + 1)) x.0) x.1) h ∙ sym (loop_t_turn at body i n a s l) ∙ rest

  pub turns-over : n ≤ i → (a, s) ≡ r
  turns-over l = sym (loop_t_end at body i n a s l) ∙ rest

-- turns that hand nothing on, each at a place g of its number
module _ (at : ℕ) (f : ℕ → Prog (Unit {0})) (g : ℕ → ℕ) (i n : ℕ) (s : State) {r : Unit {0} × State}
    (rest : run_t at (loop (λ j _. f (g j)) i (n - i) tt) s ≡ r) where
  pub step_made
      : {e : ℕ} {v : State} → i < n → e ≡ g i → v ≡ (run_t at (f e) s).1 → run_t at (loop (λ j _. f (g j)) (i + 1) (n - (i + 1)) tt) v ≡ r
  step_made l p h =
      ap (λ v. run_t at (loop (λ j _. f (g j)) (i + 1) (n - (i + 1)) tt) v) (h ∙ ap (λ e. (run_t at (f e) s).1) p)
      ∙ sym (loop_t_turn at (λ j _. f (g j)) i n tt s l)
      ∙ rest

  pub steps-over : n ≤ i → s ≡ r.1
  steps-over l = ap (λ (x : Unit {0} × State). x.1) (sym (loop_t_end at (λ j _. f (g j)) i n tt s l) ∙ rest)
