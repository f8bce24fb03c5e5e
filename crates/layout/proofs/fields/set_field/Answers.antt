-- The write at the wrapped sum: `field-set`.
use Rattle.layout.proofs.Accesses.{field-set}
use Rattle.layout.proofs.fields.set_field.Goals as goal

pub returns : goal.returns
returns c =
    let a = c.args in
    field-set a.at a.base a.offset (a.w.now, a.trace.now) c.wrapping_add_u32.ensures.value a.value c.write32.ensures
