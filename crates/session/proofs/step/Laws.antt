-- What the code of `step_of` finds, test by test: nine words as a step.
use Rattle.std.specs.Prelude.{if◌then◌else◌, Option, Some, None, EachIndex}
use Prim.Native.Nat.{ℕ, zero, suc}
use mathlib.Core.Path.{◌≡◌, refl, sym, ◌∙◌}
use native.Mathlib.Omega.{arith}
use lib.ListN.{get_or}
use mathlib.Core.List.{List, [], ◌∷◌}
use mathlib.Core.Bool.{Bool, true, false, and-false}
use lib.Dec.{eqb}
use borrow.Author.Tests.{ne_eqb, eq-eqb, eqb-true}
use Rattle.window.specs.Tests.{both}
use Rattle.register.specs.Words.{all_zero}
use Rattle.linker_spec.specs.declared.call.Call.{Call}
use Rattle.linker_spec.specs.declared.rebase.LoadArguments.{LoadArguments}
use Rattle.linker_spec.specs.declared.call.Call.TheVariants.{Initialize, Load, Unload}
use Rattle.session.specs.Steps.{step_of}

-- words that are all 0

each_zero : (l : List ℕ) → EachIndex l (λ k. get_or l k 0 ≡ 0) → all_zero l ≡ true
unfolding all_zero
each_zero [] h = refl
each_zero (w ∷ l) h = rw (eq-eqb w 0 (h 0 (omega arith)), each_zero l (λ k i. h (suc k) (omega arith)))

zero_each : (l : List ℕ) → all_zero l ≡ true → EachIndex l (λ k. get_or l k 0 ≡ 0)
unfolding all_zero
zero_each [] e k i = absurd (omega arith)
zero_each (w ∷ l) e zero i = eqb-true w 0 (both (eqb w 0) (all_zero l) e).0
zero_each (w ∷ l) e (suc k) i = zero_each l (both (eqb w 0) (all_zero l) e).1 k (omega arith)

pub zero_words
    : (l : List ℕ) {t : Bool} → (t ≡ true → EachIndex l (λ k. get_or l k 0 ≡ 0)) → (EachIndex l (λ k. get_or l k 0 ≡ 0) → t ≡ true) → t ≡ all_zero l
zero_words l {t} all back = go t (all_zero l) refl refl
  where
    go : (a b : Bool) → t ≡ a → all_zero l ≡ b → t ≡ all_zero l
    go true b e f = e ∙ sym (each_zero l (all e))
    go false true e f = back (zero_each l f) ∙ sym f
    go false false e f = e ∙ sym f

-- nine words as a step, six of them in l
module _ (call : ℕ) (l : LoadArguments) (auto level : ℕ) where
  abbrev rest : List ℕ
  rest = l.data_segment ∷ l.data_segment_size ∷ l.bss_segment ∷ l.bss_segment_size ∷ auto ∷ level ∷ []

  abbrev step : Option Call
  step = step_of call l.base l.size l.data_segment l.data_segment_size l.bss_segment l.bss_segment_size auto level

  pub is_load : call ≡ 2 → Some (Load l auto level) ≡ step
  unfolding step_of
  is_load e = rw e

  pub is_initialize : call ≡ 1 → true ≡ all_zero rest → Some (Initialize l.base l.size) ≡ step
  unfolding step_of
  is_initialize e z = rw (e, ← z)

  pub is_unload : call ≡ 3 → l.size ≡ 0 → true ≡ all_zero rest → Some (Unload l.base) ≡ step
  unfolding step_of all_zero
  is_unload e s z = rw (e, s, ← z)

  pub has_size : call ≡ 3 → (l.size ≡ 0 → ⊥) → None ≡ step
  unfolding step_of all_zero
  has_size e s = rw (e, ne_eqb l.size 0 s)

  pub no_call : (call ≡ 1 → ⊥) → (call ≡ 2 → ⊥) → (call ≡ 3 → ⊥) → None ≡ step
  unfolding step_of
  no_call a b d = rw (ne_eqb call 1 a, ne_eqb call 2 b, ne_eqb call 3 d)

  pub not-zero : (call ≡ 2 → ⊥) → false ≡ all_zero rest → None ≡ step
  unfolding step_of all_zero
  not-zero n z = rw (ne_eqb call 2 n, ← z, and-false (eqb l.size 0)) (go (eqb call 1) (eqb call 3))
    where
      go : (a b : Bool) → ◌≡◌ {A = Option Call} None (if a then None else (if b then None else None))
      go true b = refl
      go false true = refl
      go false false = refl
