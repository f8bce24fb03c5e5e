use Rattle.std.proofs.Common.{arith}
use Rattle.writer_spec.specs.Description.{file_of}
use Rattle.writer.proofs.batches.Laws.{no_batches, batch-past, batch-new, batch_again, batches_end}
use Rattle.writer.proofs.batches.batches_apart.Goals as goal
use Rattle.writer.proofs.batches.batches_apart.Goals.{else-batch-end-via-then-batch-end+else-not-batch_is_new, else-batch-end-via-else-batch-end}

pub loop-k-init : goal.loop-k-init
loop-k-init c = no_batches (file_of c.args.bytes.now)

pub returns-then-not-batch_is_new : goal.returns-then-not-batch_is_new
returns-then-not-batch_is_new c = batch_again (file_of c.args.bytes.now) c.loop-k.invariant c.loop-k-test.true c.import_batch-batch.ensures c.batch_is_new.ensures c.if-not-batch_is_new.true c.import_count-k-end.ensures

pub loop-k-preserved : goal.loop-k-preserved
loop-k-preserved c =
    let so_far = c.loop-k.invariant in
    elim c.else-batch-end.branch [
      | else-batch-end-via-then-batch-end+else-not-batch_is_new w ↦
          batch-new (file_of c.args.bytes.now) so_far c.loop-k-test.true c.import_batch-batch.ensures w.batch_is_new.ensures
          w.if-not-batch_is_new.false c.max-end.ensures
      | else-batch-end-via-else-batch-end w ↦
          batch-past (file_of c.args.bytes.now) so_far c.loop-k-test.true c.import_batch-batch.ensures w.if-batch-end.false
          c.max-end.ensures
    ]

pub returns : goal.returns
returns c = batches_end (file_of c.args.bytes.now) c.loop-k.invariant (omega (arith, c.import_count-k-end.ensures))
