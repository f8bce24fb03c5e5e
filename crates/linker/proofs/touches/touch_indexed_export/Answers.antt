-- The accesses in their order: `indexed_touched`.
use Rattle.linker.proofs.touches.Laws.{indexed_touched}
use Rattle.linker.proofs.touches.touch_indexed_export.Goals as goal

pub returns : goal.returns
returns c =
    let a = c.args in
    indexed_touched a.at a.base a.entry (a.w.now, a.trace.now) c.read32-tag.ensures c.tag_to_address.ensures
