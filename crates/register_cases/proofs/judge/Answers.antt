-- The buffers are long enough, or one is not.
use native.Mathlib.Omega.{arith}
use Rattle.register_cases.proofs.Laws.{short-records, short-names, short_missing, enough}
use Rattle.register_cases.proofs.judge.Goals as goal

pub returns-in_err-records : goal.returns-in_err-records
returns-in_err-records c = rw c.from_residual.ensures (short-records _ _ _ _ _ _ _ (omega (arith, c.in_err-records.ensures.lookup)))

pub returns-in_err-names : goal.returns-in_err-names
returns-in_err-names c =
    rw c.from_residual-in_err-names.ensures
    (short-names _ _ _ _ _ _ _ c.in_ok-records.ensures.lookup.0.1 (omega (arith, c.in_err-names.ensures.lookup)))

pub returns-in_err-missing : goal.returns-in_err-missing
returns-in_err-missing c =
    rw c.from_residual-in_err-missing.ensures
    (short_missing _ _ _ _ _ _ _ c.in_ok-records.ensures.lookup.0.1 c.in_ok-names.ensures.lookup.0.1 (omega (arith, c.in_err-missing.ensures.lookup)))

pub returns : goal.returns
returns c =
    let a = c.in_ok-records.ensures.lookup.0 in
    let b = c.in_ok-names.ensures.lookup.0 in
    let d = c.in_ok-missing.ensures.lookup.0 in
    enough _ _ _ _ _ _ _ a.1 a.2 b.1 b.2 d.1 d.2 c.is_register-valid.ensures
