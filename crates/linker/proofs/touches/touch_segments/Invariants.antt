-- The invariant: what is left to touch leaves what all segments leave.
use Rattle.std.proofs.Common.{◌≤◌, []}
use Rattle.linker.proofs.touches.Laws.{turns, LeftToTouch, segment_turn}
use Rattle.linker.proofs.touches.touch_segments.Given as goal

abbrev pub invariant-loop-index : goal.invariant-loop-index
invariant-loop-index l =
    (l.index ≤ l.count)
    × LeftToTouch l.at (segment_turn l.base) (λ j. j) l.index l.count (l.w, l.trace) (turns l.at (segment_turn l.base) (λ j. j) 0 l.count [] (l.w, l.initial.trace))
