-- The word at the wrapped sum: `field_read`.
use Rattle.layout.proofs.Accesses.{field_read}
use Rattle.layout.proofs.fields.field.Goals as goal

pub returns : goal.returns
returns c =
    let a = c.args in
    field_read a.at a.base a.offset (a.w.now, a.trace.now) c.wrapping_add_u32.ensures.value c.read32.ensures
