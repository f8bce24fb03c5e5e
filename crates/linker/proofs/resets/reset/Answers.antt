-- By whether there is a batch, and whether it is resolved.
use Rattle.linker.proofs.resets.Laws.{reset_none, reset_made, reset-left}
use Rattle.linker.proofs.resets.reset.Goals as goal

pub returns-then-batch-eq0 : goal.returns-then-batch-eq0
returns-then-batch-eq0 c =
    let a = c.args in
    reset_none a.at a.base a.handler a.batch (a.w.now, a.trace.now) c.if-batch-eq0.true

pub returns-then-batch_is_resolved : goal.returns-then-batch_is_resolved
returns-then-batch_is_resolved c =
    let a = c.args in
    reset_made a.at a.base a.handler a.batch (a.w.now, a.trace.now) c.if-batch-eq0.false c.batch_is_resolved.ensures c.if-batch_is_resolved.true
    c.apply_relocation_batch.ensures

pub returns-else-batch_is_resolved : goal.returns-else-batch_is_resolved
returns-else-batch_is_resolved c =
    let a = c.args in
    reset-left a.at a.base a.handler a.batch (a.w.now, a.trace.now) c.if-batch-eq0.false c.batch_is_resolved.ensures c.if-batch_is_resolved.false
