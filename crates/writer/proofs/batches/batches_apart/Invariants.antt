use Rattle.writer_spec.specs.Description.{file_of}
use Rattle.writer.proofs.batches.Laws.{BatchesSoFar}
use Rattle.writer.proofs.batches.batches_apart.Given as goal

abbrev pub invariant-loop-k : goal.invariant-loop-k
invariant-loop-k l = BatchesSoFar (file_of l.bytes) l.k l.end
