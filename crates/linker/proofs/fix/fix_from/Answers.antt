-- The pairs, the dropped tables and the size, in their order: `fixed_from`.
use Rattle.linker.proofs.fix.Laws.{fixed_from}
use Rattle.linker.proofs.fix.fix_from.Goals as goal

pub returns : goal.returns
returns c =
    let a = c.args in
    fixed_from a.at a.base a.size a.barrier (a.w.now, a.trace.now) c.field-code.ensures c.field-bytes.ensures c.wrapping_add_u32.ensures.value
    c.fix_pairs-end.ensures c.fixed_to-fixed.ensures c.wrapping_add_u32-2.ensures.value c.end_tables.ensures c.set_field.ensures
