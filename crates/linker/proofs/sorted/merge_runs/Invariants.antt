-- The invariant: what is done is no longer than what was taken of both runs, so no pair is laid over one that is still to be read.
use Rattle.std.proofs.Common.{◌≡◌, ◌+◌, ◌-◌, ◌≤◌, true, List, length}
use Rattle.register.specs.Module.{Export, ascending}
use Rattle.linker.specs.Exports.Sorted.{Merging}
use Rattle.linker.proofs.sorted.merge_runs.Given as goal

abbrev pub invariant-loop-i : goal.invariant-loop-i
invariant-loop-i l =
    (l.n ≤ l.i) × (l.i ≤ l.end) × (l.j ≤ l.n) × (l.k + (l.end - l.i) ≤ l.j) × (length l.items ≡ length l.initial.items)
    × ((all : List Export) → ascending all ≡ true → Merging l.at l.w all l.n l.end l.n l.left 0 l.initial.items → Merging l.at l.w all l.n l.end l.i l.j l.k l.items)

abbrev pub decreases-loop-i : goal.decreases-loop-i
decreases-loop-i l = (l.end - l.i) + (l.n - l.j)
