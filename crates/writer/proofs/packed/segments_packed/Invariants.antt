use mathlib.Core.Path.{◌≡◌}
use Rattle.layout.specs.Header.{header_size}
use Rattle.history.specs.Image.{segments, count}
use Rattle.writer_spec.specs.Description.{file_of, segment_blocks, packed_from}
use Rattle.writer.proofs.packed.Laws.{segments_left}
use Rattle.writer.proofs.packed.segments_packed.Given as goal

abbrev pub invariant-loop-i : goal.invariant-loop-i
invariant-loop-i l = segments_left (file_of l.bytes) l.i-end l.i l.pos ≡ packed_from (file_of l.bytes) header_size (segment_blocks (file_of l.bytes) (count (file_of l.bytes) segments) 0)
