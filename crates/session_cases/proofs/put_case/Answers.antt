-- The buffer is long enough, or it is not.
use native.Mathlib.Omega.{arith}
use Rattle.session_cases.proofs.Laws.{short, enough}
use Rattle.session_cases.proofs.put_case.Goals as goal

pub returns-in_err-get : goal.returns-in_err-get
returns-in_err-get c = rw c.from_residual.ensures (short _ _ _ _ (omega (arith, c.in_err-get.ensures.lookup)))

pub returns : goal.returns
returns c =
    let h = c.in_ok-get.ensures.lookup.0 in
    enough _ _ _ _ h.1 h.2 c.session_text-length.ensures.0
