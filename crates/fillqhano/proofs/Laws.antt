-- The two tests, and what an exported call makes of a call over a trace.
use Rattle.std.specs.Prelude.{if◌then◌else◌, Result, Ok, Err, IfOk, IfErr}
use Prim.Native.Nat.{ℕ}
use mathlib.Core.Path.{◌≡◌, refl, sym, ap, ◌∙◌}
use mathlib.Core.List.{List}
use mathlib.Core.Bool.{Bool, true, false, ◌&&◌}
use native.Mathlib.Omega.{arith}
use lib.Dec.{eqb}
use Rattle.window.specs.Memory.{good_window}
use Rattle.window.specs.Access.{Prog, run}
use Rattle.window.specs.Trace.{run_t, touch_of}
use Rattle.window.specs.Silent.{erase}
use Rattle.register.specs.Module.{Register}
use Rattle.register.specs.Decode.{is_register}
use Rattle.linker_spec.specs.Calls.{Answer, number, value}
use Rattle.linker_spec.specs.Outcome.{Buffers, Outcome, outcome, outcome_of, call_outcome}
use Rattle.linker_spec.specs.Touches.{no_touch, no_log, touch_in, counted, touches}
use Rattle.linker_spec.proofs.Refusals.{answers, refuses_3, refuses_4}
use Rattle.linker_spec.specs.declared.refusal.Refusal.TheVariants.{NoRoom}
use Rattle.linker_spec.specs.declared.refusal.Refusal.{Refusal}
use Rattle.linker_spec.specs.Refusal.{refusal_number, number_of, value_of}
use Rattle.linker.specs.Calls.Traced.{call_of, traced}
use Rattle.fillqhano.specs.Refusal.{refusal_of_buffers}

-- the tests

pub refusal_3 : {g : Bool} (v : Bool) → g ≡ false → 3 ≡ refusal_of_buffers g v
unfolding refusal_of_buffers number
refusal_3 v e = rw e

pub refusal_4 : {g v : Bool} → g ≡ true → v ≡ false → 4 ≡ refusal_of_buffers g v
unfolding refusal_of_buffers number
refusal_4 e f = rw (e, f)

pub refusal_0 : {g v : Bool} → g ≡ true → v ≡ true → 0 ≡ refusal_of_buffers g v
unfolding refusal_of_buffers number
refusal_0 e f = rw (e, f)

pub tests_pass : (g v : Bool) {n : ℕ} → n ≡ refusal_of_buffers g v → n ≡ 0 → (g ≡ true) × (v ≡ true)
unfolding refusal_of_buffers number
tests_pass true true e z = (refl, refl)
tests_pass true false e z = absurd (omega arith)
tests_pass false v e z = absurd (omega arith)

pub tests_refuse
    : (call : ℕ → ℕ → Register → Prog Answer) (at : ℕ) (b : Buffers) {n : ℕ}
    → n ≡ refusal_of_buffers (good_window at b.window) (is_register b.records b.names b.missing) → (n ≡ 0 → ⊥) → outcome n 0 b ≡ call_outcome call at b
unfolding refusal_of_buffers number value
tests_refuse call at b {n} e k =
    go (good_window at b.window) (is_register b.records b.names b.missing) refl refl e
  where
    go
        : (g v : Bool) → good_window at b.window ≡ g → is_register b.records b.names b.missing ≡ v → n ≡ refusal_of_buffers g v
        → outcome n 0 b ≡ call_outcome call at b
    go true true eg ev e = absurd (k e)
    go true false eg ev e = rw e (sym (refuses_4 call at b eg ev))
    go false v eg ev e = rw e (sym (refuses_3 call at b eg))

counted_ap : {A B : Type 0} (f : A → B) (a : Answer) (x y : A) → f (counted a x y) ≡ counted a (f x) (f y)
unfolding counted
counted_ap f a x y = go (eqb (number a) (refusal_number NoRoom))
  where
    go : (t : Bool) → f (if t then x else y) ≡ (if t then f x else f y)
    go true = refl
    go false = refl

-- a call that its tests refuse makes no access
refused-touches
    : (call : ℕ → ℕ → Register → Prog Answer) (beginning : Prog (Unit {0})) (at : ℕ) (b : Buffers) {n : ℕ}
    → n ≡ refusal_of_buffers (good_window at b.window) (is_register b.records b.names b.missing) → (n ≡ 0 → ⊥)
    → ◌≡◌ {A = ℕ × ℕ} (0, 0) (touches call beginning at b)
unfolding touches refusal_of_buffers
refused-touches call beginning at b {n} e k = go (good_window at b.window) (is_register b.records b.names b.missing) e
  where
    go
        : (g v : Bool) → n ≡ refusal_of_buffers g v
        → ◌≡◌ {A = ℕ × ℕ} (0, 0) (if g && v then counted (run at (call_of call b) b.window).0 (touch_in at beginning b.window) (touch_in at (call_of call b) b.window) else (0, 0))
    go true true e = absurd (k e)
    go true false e = refl
    go false v e = refl

-- an exported call that passes its tests lends a trace of which nothing is said
module _ (call : ℕ → ℕ → Register → Prog Answer) (beginning : Prog (Unit {0})) (at : ℕ) (b : Buffers) (g : good_window at b.window ≡ true)
    (v : is_register b.records b.names b.missing ≡ true) where
  same : let x = run_t at (call_of call b) (b.window, no_touch) in ◌≡◌ {A = Answer × List ℕ} (x.0, x.1.0) (run at (call_of call b) b.window)
  same = (erase at (call_of call b) b.window no_touch no_log).0

  exported-outcome : {o : Outcome} {t : List ℕ} → (o, t) ≡ traced call beginning at b no_touch → o ≡ call_outcome call at b
  unfolding traced
  exported-outcome e =
      ap (λ (y : Outcome × List ℕ). y.0) e
      ∙ ap (outcome_of b) same
      ∙ sym (answers call at b g v refl)

  exported-touches
      : {o : Outcome} {t : List ℕ} {touch : ℕ × ℕ} → (o, t) ≡ traced call beginning at b no_touch → touch ≡ touch_of t
      → touch ≡ touches call beginning at b
  unfolding traced touches touch_in
  exported-touches e h =
      let x = run_t at (call_of call b) (b.window, no_touch) in
      rw (h, g, v)
      (ap (λ (y : Outcome × List ℕ). touch_of y.1) e
      ∙ counted_ap touch_of x.0 _ _
      ∙ ap (λ (y : Answer × List ℕ). counted y.0 (touch_in at beginning b.window) (touch_in at (call_of call b) b.window)) same)

pub told : (t : List ℕ) {touched first : ℕ} → touched ≡ (touch_of t).0 → first ≡ (touch_of t).1 → ◌≡◌ {A = ℕ × ℕ} (touched, first) (touch_of t)
told t e f = rw (e, f)

-- both clauses of an exported call: the tests refuse it, or it is made
module _ (call : ℕ → ℕ → Register → Prog Answer) (beginning : Prog (Unit {0})) (at : ℕ) (b : Buffers) {n : ℕ}
    (e : n ≡ refusal_of_buffers (good_window at b.window) (is_register b.records b.names b.missing)) where
  pub call-refused
      : (n ≡ 0 → ⊥) → {v touched first : ℕ} → (v ≡ 0) × (touched ≡ 0) × (first ≡ 0)
      → (outcome n v b ≡ call_outcome call at b) × ◌≡◌ {A = ℕ × ℕ} (touched, first) (touches call beginning at b)
  call-refused k h = (rw h.0 (tests_refuse call at b e k), rw (h.1, h.2) (refused-touches call beginning at b e k))

  pub call-answered
      : n ≡ 0 → {o : Outcome} {t : List ℕ} {touch : ℕ × ℕ} → (o, t) ≡ traced call beginning at b no_touch → touch ≡ touch_of t
      → (o ≡ call_outcome call at b) × (touch ≡ touches call beginning at b)
  call-answered z h g =
      let passed = tests_pass _ _ e z in
      (exported-outcome call beginning at b passed.0 passed.1 h, exported-touches call beginning at b passed.0 passed.1 h g)

-- the number and value that C is told of an answer make the same outcome as the answer's own
pub answer_outcome
    : (r : Result ℕ Refusal) {n v : ℕ} → IfOk r (λ given. (n ≡ 0) × (v ≡ given)) → IfErr r (λ error. (n ≡ refusal_number error) × (v ≡ 0))
    → {b : Buffers} {o : Outcome} → outcome (number_of r) (value_of r) b ≡ o → outcome n v b ≡ o
answer_outcome (Ok given) done refused e = rw (done.0, done.1) e
answer_outcome (Err error) done refused e = rw (refused.0, refused.1) e
