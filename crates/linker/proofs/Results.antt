-- What the exits of a `?` answer, and what led to them.
use Rattle.std.proofs.Common.{◌≡◌, ℕ, Option, Some, None, ok_or, Result, Ok, Err, IsErrAnd, refl, ap, arith}
use Rattle.linker_spec.specs.declared.refusal.Refusal.{Refusal}
use Rattle.linker_spec.specs.Refusal.{refusal_number, number_of, value_of}

module _ {A E : Type 0} where
  pub ok_or-none : (x : Option A) {error found : E} → ok_or x error ≡ Err found → (x ≡ None) × (found ≡ error)
  ok_or-none None e = (refl, cc)
  ok_or-none (Some a) e = let z : ◌≡◌ {A = ℕ} 0 1 = cc in absurd (omega arith)

  pub err_as : (r : Result A E) (error : E) → IsErrAnd r (λ e. e ≡ error) → r ≡ Err error
  err_as (Ok a) error h = absurd h
  err_as (Err e) error h = ap Err h

pub err-number : {A : Type 0} (r : Result A Refusal) (refusal : Refusal) → IsErrAnd r (λ e. e ≡ refusal) → number_of r ≡ refusal_number refusal
err-number r refusal h = ap number_of (err_as r refusal h)

pub err-value : (r : Result ℕ Refusal) (refusal : Refusal) → IsErrAnd r (λ e. e ≡ refusal) → value_of r ≡ 0
err-value r refusal h = ap value_of (err_as r refusal h)
