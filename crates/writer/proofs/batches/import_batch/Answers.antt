use Rattle.std.proofs.Common.{arith}
use Rattle.writer.proofs.batches.Laws.{anonymous_fits}
use Rattle.writer.proofs.batches.import_batch.Goals as goal

pub overflow_cast-i-2 : goal.overflow_cast-i-2
overflow_cast-i-2 c = omega (arith, anonymous_fits c.args.bytes.now (λ i. (c.type_inv.bytes i).fits) c.count-named.ensures c.count-indexed.ensures c.requires)
