use mathlib.Core.Path.{◌≡◌}
use Rattle.writer_spec.specs.Description.{file_of, pair_blocks, packed_from}
use Rattle.writer.proofs.packed.Laws.{pairs_left}
use Rattle.writer.proofs.packed.tables_packed.Given as goal

abbrev pub invariant-loop-k : goal.invariant-loop-k
invariant-loop-k l = pairs_left (file_of l.bytes) 15 l.k l.pos ≡ packed_from (file_of l.bytes) l.start (pair_blocks (file_of l.bytes) 15 0)
