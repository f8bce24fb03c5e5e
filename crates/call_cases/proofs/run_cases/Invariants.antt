-- Of k cases at most k are as stored.
use Rattle.std.proofs.Common.{◌≤◌}
use Rattle.call_cases.proofs.run_cases.Given as goal

abbrev pub invariant-loop-k : goal.invariant-loop-k
invariant-loop-k g l = l.same ≤ l.k
