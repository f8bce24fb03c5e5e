-- By the count: `segment-past`, and `segment-there` with the words that the calls give.
use Rattle.layout.proofs.Accesses.{segment-past, segment-there, entry_read}
use Rattle.layout.proofs.segments.segment_anywhere.Goals as goal

pub returns-then-index-field : goal.returns-then-index-field
returns-then-index-field c =
    let a = c.args in
    segment-past a.at a.base a.index (a.w.now, a.trace.now) c.field.ensures c.if-index-field.true

pub returns : goal.returns
returns c =
    let a = c.args in
    segment-there a.at a.base a.index (a.w.now, a.trace.now) c.field.ensures c.if-index-field.false
    c.field-table.ensures c.entry_address-entry.ensures
    (entry_read a.at c.entry_address-entry.result _ c.read32-offset.ensures c.wrapping_add_u32.ensures.value c.read32-size.ensures
    c.wrapping_add_u32-2.ensures.value c.read32-kind.ensures c.from.ensures)
