use Rattle.layout.proofs.Accesses.{segment-set}
use Rattle.layout.proofs.segments.set_segment.Goals as goal

pub returns : goal.returns
returns c =
    let a = c.args in
    segment-set a.at a.base a.index a.value (a.w.now, a.trace.now) c.field-table.ensures
    c.entry_address-entry.ensures c.write32.ensures c.wrapping_add_u32.ensures.value c.write32-2.ensures
    c.wrapping_add_u32-2.ensures.value c.from.ensures c.write32-3.ensures
