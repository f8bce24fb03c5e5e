-- The mark is a byte: `mark_read`.
use Rattle.linker.proofs.relocation.Laws.{mark_read}
use Rattle.linker.proofs.relocation.batch_is_resolved.Goals as goal

pub returns : goal.returns
returns c =
    let a = c.args in
    mark_read a.at a.batch (a.w.now, a.trace.now) c.wrapping_add_u32.ensures.value c.read8.ensures
