use Rattle.std.proofs.Common.{◌≡◌, length, Some}
use Rattle.linker.specs.Exports.Modules.{DraftStep, AnyModule}
use Rattle.linker.proofs.exports.Laws.{WithIndexedTo}
use Rattle.linker.proofs.exports.add_all_indexed.Given as goal

abbrev pub invariant-loop-i : goal.invariant-loop-i
invariant-loop-i l =
    (length l.records ≡ length l.initial.records)
    × (length l.names ≡ length l.initial.names)
    × DraftStep AnyModule (λ m. WithIndexedTo l.at l.w l.base m 0) (λ m. WithIndexedTo l.at l.w l.base m l.i) l.initial.last l.initial.records l.initial.names (Some l.last) l.records l.names
