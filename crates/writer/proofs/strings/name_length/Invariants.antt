use mathlib.Core.Path.{◌≡◌}
use Rattle.writer_spec.specs.Description.{file_of, name_room, nonzeros}
use Rattle.writer.proofs.strings.Laws.{name_so_far}
use Rattle.writer.proofs.strings.name_length.Given as goal

abbrev pub invariant-loop-n : goal.invariant-loop-n
invariant-loop-n l = name_so_far (file_of l.bytes) name_room l.p l.n ≡ nonzeros (file_of l.bytes) name_room l.p
