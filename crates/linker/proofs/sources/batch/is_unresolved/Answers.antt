use Rattle.linker.proofs.sources.Laws.{no_batch, batch-waits}
use Rattle.linker.proofs.sources.batch.is_unresolved.Goals as goal

pub returns-then-batch-eq0 : goal.returns-then-batch-eq0
returns-then-batch-eq0 c =
    let a = c.args in
    no_batch a.at a.batch (a.w.now, a.trace.now) c.if-batch-eq0.true

pub returns : goal.returns
returns c =
    let a = c.args in
    batch-waits a.at a.batch (a.w.now, a.trace.now) c.if-batch-eq0.false c.batch_is_resolved.ensures
