-- Of k cases at most k are valid.
use Rattle.std.proofs.Common.{◌≤◌}
use Rattle.register_cases.proofs.run_cases.Given as goal

abbrev pub invariant-loop-k : goal.invariant-loop-k
invariant-loop-k g l = l.valid ≤ l.k
