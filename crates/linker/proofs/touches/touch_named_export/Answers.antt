-- The accesses in their order: `named_touched`.
use Rattle.linker.proofs.touches.Laws.{named_touched}
use Rattle.linker.proofs.touches.touch_named_export.Goals as goal

pub returns : goal.returns
returns c =
    let a = c.args in
    named_touched a.at a.base a.entry (a.w.now, a.trace.now) c.read32-place.ensures c.touch_name.ensures
    c.wrapping_add_u32.ensures.value c.read32-tag.ensures c.tag_to_address.ensures
