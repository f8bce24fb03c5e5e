-- The parts in their order: `module_touched`.
use Rattle.linker.proofs.touches.Laws.{module_touched}
use Rattle.linker.proofs.touches.touch_module.Goals as goal

pub returns : goal.returns
returns c =
    let a = c.args in
    module_touched a.at a.base (a.w.now, a.trace.now) c.touch_named.ensures c.touch_indexed.ensures
    c.touch_segments.ensures c.field-own.ensures c.touch_name.ensures
