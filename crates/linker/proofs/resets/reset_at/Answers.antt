use Rattle.linker.proofs.resets.Laws.{reset-entry}
use Rattle.linker.proofs.resets.reset_at.Goals as goal

pub returns : goal.returns
returns c =
    let a = c.args in
    reset-entry a.at a.base a.handler a.entry (a.w.now, a.trace.now) c.wrapping_add_u32.ensures.value c.read32-batch.ensures c.reset.ensures
