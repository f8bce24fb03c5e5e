-- A step's outcome, from the call that it is.
use Rattle.std.specs.Prelude.{Option, Some, None}
use Prim.Native.Nat.{ℕ}
use mathlib.Core.Path.{◌≡◌, refl}
use Rattle.linker_spec.specs.declared.call.Call.{Call}
use Rattle.linker_spec.specs.Outcome.{Buffers, Outcome, outcome}
use Rattle.history.specs.Windows.{given_valid}
use Rattle.history.specs.Theorem.Demand3.{promised_given}
use Rattle.session.specs.Continues.{Continues}
use Rattle.history.specs.Sessions.{call_record}
use Rattle.session.specs.Run.{step_outcome, StepPromise}

-- a call: what its contract says, and that a register stays one
pub is_call
    : {step : Option Call} {call : Call} (at : ℕ) (b : Buffers) {o : Outcome} → step ≡ Some call → Continues (call_record call at b o) → StepPromise step at b o
unfolding step_outcome
is_call {step} {call} at b e h =
    let given_so = promised_given call at b _ h.promised in (
      rw e given_so,
      λ v. rw given_so (given_valid call at b h.typed.0 v h.typed.1).0,
    )

pub is_bad : {step : Option Call} (at : ℕ) (b : Buffers) → step ≡ None → StepPromise step at b (outcome 0 0 b)
unfolding step_outcome
is_bad at b e = (rw e refl, λ v. v)
