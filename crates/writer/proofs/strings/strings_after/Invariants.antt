use mathlib.Core.Path.{◌≡◌}
use Rattle.writer_spec.specs.Description.{file_of, table_at, strings_from, pointers_of}
use Rattle.writer.proofs.strings.Laws.{names_left}
use Rattle.writer.proofs.strings.strings_after.Given as goal

abbrev pub invariant-loop-i : goal.invariant-loop-i
invariant-loop-i l = names_left (file_of l.bytes) (table_at l.table.field l.table.width) l.i-end l.i l.pos ≡ strings_from (file_of l.bytes) l.start (pointers_of (file_of l.bytes) (table_at l.table.field l.table.width))
