use Rattle.std.proofs.Common.{◌≡◌, length, Some}
use Rattle.linker.specs.Exports.Modules.{DraftStep, Bare}
use Rattle.linker.proofs.exports.Laws.{WithSegmentsTo}
use Rattle.linker.proofs.exports.add_segments.Given as goal

abbrev pub invariant-loop-i : goal.invariant-loop-i
invariant-loop-i l =
    (length l.records ≡ length l.initial.records)
    × (length l.names ≡ length l.initial.names)
    × DraftStep Bare (λ m. WithSegmentsTo l.at l.w l.base m 0) (λ m. WithSegmentsTo l.at l.w l.base m l.i) l.initial.last l.initial.records l.initial.names (Some l.last) l.records l.names
