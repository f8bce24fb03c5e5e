-- The head of one list, of the other, or of none.
use Rattle.linker.proofs.lists.Laws.{leaves-first, leaves_second, Leaves-none}
use Rattle.linker.proofs.lists.leaves.Goals as goal

pub returns-then-field-base : goal.returns-then-field-base
returns-then-field-base c =
    let a = c.args in
    leaves-first a.at a.crs a.base a.next a.previous (a.w.now, a.trace.now) c.field.ensures c.if-field-base.true c.head_leaves.ensures

pub returns-then-field-base-2 : goal.returns-then-field-base-2
returns-then-field-base-2 c =
    let a = c.args in
    leaves_second a.at a.crs a.base a.next a.previous (a.w.now, a.trace.now) c.field.ensures c.if-field-base.false c.field-2.ensures
    c.if-field-base-2.true c.head_leaves-then-field-base-2.ensures

pub returns : goal.returns
returns c =
    let a = c.args in
    Leaves-none a.at a.crs a.base a.next a.previous (a.w.now, a.trace.now) c.field.ensures c.if-field-base.false c.field-2.ensures
    c.if-field-base-2.false c.other_leaves.ensures
