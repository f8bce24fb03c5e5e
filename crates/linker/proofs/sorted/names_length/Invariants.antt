use Rattle.std.proofs.Common.{◌*◌, ◌≤◌}
use Rattle.linker.proofs.sorted.Laws.{SummedTo}
use Rattle.linker.proofs.sorted.names_length.Given as goal

abbrev pub invariant-loop-k : goal.invariant-loop-k
invariant-loop-k l = (l.sum ≤ 512 * l.k) × SummedTo l.at l.w l.waiting l.k l.sum
