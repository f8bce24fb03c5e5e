-- The invariant: what is left to touch leaves what the whole table leaves.
use Rattle.std.proofs.Common.{◌≤◌, []}
use Rattle.linker_spec.specs.Exports.{named_export}
use Rattle.linker.proofs.touches.Laws.{turns, LeftToTouch, named_entry}
use Rattle.linker.proofs.touches.touch_named.Given as goal

abbrev pub invariant-loop-i : goal.invariant-loop-i
invariant-loop-i l =
    (l.i ≤ l.count)
    × LeftToTouch l.at (named_export l.base) (named_entry l.table) l.i l.count (l.w, l.trace)
    (turns l.at (named_export l.base) (named_entry l.table) 0 l.count [] (l.w, l.initial.trace))
