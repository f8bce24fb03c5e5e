-- No head, a head with another tail, a head whose tail leaves.
use Rattle.linker.proofs.lists.Laws.{tail_no_head, tail_other, tail_new}
use Rattle.linker.proofs.lists.new_tail.Goals as goal

pub returns-then-head-eq0 : goal.returns-then-head-eq0
returns-then-head-eq0 c =
    let a = c.args in
    tail_no_head a.at a.crs a.x a.base a.previous (a.w.now, a.trace.now) c.field-head.ensures c.if-head-eq0.true

pub returns-then-field-base : goal.returns-then-field-base
returns-then-field-base c =
    let a = c.args in
    tail_other a.at a.crs a.x a.base a.previous (a.w.now, a.trace.now) c.field-head.ensures c.if-head-eq0.false c.field.ensures
    c.if-field-base.true

pub returns : goal.returns
returns c =
    let a = c.args in
    tail_new a.at a.crs a.x a.base a.previous (a.w.now, a.trace.now) c.field-head.ensures c.if-head-eq0.false c.field.ensures
    c.if-field-base.false
    c.set_field.ensures
