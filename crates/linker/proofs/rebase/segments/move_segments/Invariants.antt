use Rattle.std.proofs.Common.{◌≡◌, ◌-◌, ◌≤◌, length, Some}
use Rattle.window.specs.Trace.{run_t}
use Rattle.window.specs.Loop.{loop}
use Rattle.linker_spec.specs.Rebase.{move_segment}
use Rattle.linker.proofs.rebase.segments.move_segments.Given as goal

abbrev pub invariant-loop-index : goal.invariant-loop-index
invariant-loop-index l =
    (l.index ≤ l.count)
    × (length l.w ≡ length l.initial.w)
    × (run_t l.at (loop (move_segment l.lent) l.index (l.count - l.index) (Some l.old)) (l.w, l.trace)
    ≡ run_t l.at (loop (move_segment l.lent) 0 (l.count - 0) (Some 0)) (l.initial.w, l.initial.trace))
    × (length l.trace ≡ length l.initial.trace)

abbrev pub decreases-loop-index : goal.decreases-loop-index
decreases-loop-index l = l.count - l.index
