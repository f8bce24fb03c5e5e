-- In no list, or out of one.
use Rattle.linker.proofs.lists.Laws.{in_no_list, unregistered}
use Rattle.linker.proofs.lists.unregister.Goals as goal

pub returns-then-previous-eq0 : goal.returns-then-previous-eq0
returns-then-previous-eq0 c =
    let a = c.args in
    in_no_list a.at a.crs a.base (a.w.now, a.trace.now) c.field-next.ensures c.field-previous.ensures c.if-previous-eq0.true

pub returns : goal.returns
returns c =
    let a = c.args in
    unregistered a.at a.crs a.base (a.w.now, a.trace.now) c.field-next.ensures c.field-previous.ensures c.if-previous-eq0.false c.leaves.ensures
    c.set_field.ensures c.set_field-2.ensures
