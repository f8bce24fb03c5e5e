-- The invariant: what is left to touch leaves what the whole table leaves.
use Rattle.std.proofs.Common.{◌≤◌, []}
use Rattle.linker_spec.specs.Exports.{indexed_export}
use Rattle.linker.proofs.touches.Laws.{turns, LeftToTouch, indexed_entry}
use Rattle.linker.proofs.touches.touch_indexed.Given as goal

abbrev pub invariant-loop-i : goal.invariant-loop-i
invariant-loop-i l =
    (l.i ≤ l.count)
    × LeftToTouch l.at (indexed_export l.base) (indexed_entry l.table) l.i l.count (l.w, l.trace)
    (turns l.at (indexed_export l.base) (indexed_entry l.table) 0 l.count [] (l.w, l.initial.trace))
