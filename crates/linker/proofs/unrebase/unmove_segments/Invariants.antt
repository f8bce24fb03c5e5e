use Rattle.std.proofs.Common.{◌≡◌, ◌-◌, ◌≤◌, length}
use Rattle.window.specs.Trace.{run_t}
use Rattle.window.specs.Loop.{loop}
use Rattle.linker_spec.specs.Unrebase.{unmove_segment}
use Rattle.linker.proofs.unrebase.unmove_segments.Given as goal

abbrev pub invariant-loop-index : goal.invariant-loop-index
invariant-loop-index l =
    (l.index ≤ l.count)
    × (length l.w ≡ length l.initial.w)
    × (run_t l.at (loop (λ i _. unmove_segment l.base i) l.index (l.count - l.index) tt) (l.w, l.trace)
    ≡ run_t l.at (loop (λ i _. unmove_segment l.base i) 0 (l.count - 0) tt) (l.initial.w, l.initial.trace))
    × (length l.trace ≡ length l.initial.trace)

abbrev pub decreases-loop-index : goal.decreases-loop-index
decreases-loop-index l = l.count - l.index
