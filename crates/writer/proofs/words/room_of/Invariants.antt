-- The invariant: what the first i segments ask for.
use Rattle.writer_spec.specs.Description.{file_of}
use Rattle.writer.proofs.words.Laws.{RoomBelow}
use Rattle.writer.proofs.words.room_of.Given as goal

abbrev pub invariant-loop-i : goal.invariant-loop-i
invariant-loop-i l = RoomBelow (file_of l.bytes) l.size l.i l.room
