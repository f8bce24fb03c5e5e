-- A turn that was made, from the exported call that it is.
use Prim.Native.Nat.{ℕ}
use mathlib.Core.Path.{◌≡◌}
use Rattle.linker_spec.specs.declared.call.Call.{Call}
use Rattle.linker_spec.specs.declared.call.Call.TheVariants.{Initialize, Load, Unload}
use Rattle.linker_spec.specs.Outcome.{Buffers, Outcome}
use Rattle.linker_spec.specs.Touches.{touches_of}
use Rattle.linker_spec.specs.Valid.{AreBytes}
use Rattle.history.specs.Sessions.{given, WordArguments, call_record}
use Rattle.history.specs.Outcomes.{Promised}
use Rattle.session.specs.Continues.{Continues, continues}

-- document 01's outcome is what the exported calls promise
given_promised : (call : Call) (at : ℕ) (b : Buffers) {o : Outcome} → o ≡ given call at b → Promised call at b o
unfolding given Promised
given_promised (Initialize base size) at b e = e
given_promised (Load l auto level) at b e = e
given_promised (Unload base) at b e = e

pub call_continues
    : (call : Call) (at : ℕ) (b : Buffers) → AreBytes b → {o : Outcome} {touch : ℕ × ℕ}
    → (o ≡ given call at b) × ((touch ≡ touches_of call at b) × WordArguments call)
    → Continues (call_record call at b o) × (touch ≡ touches_of call at b)
call_continues call at b bytes {o} h = (continues (call_record call at b o) (h.1.1, bytes) (given_promised call at b h.0), h.1.0)
