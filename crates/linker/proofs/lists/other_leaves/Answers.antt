use Rattle.linker.proofs.lists.Laws.{other_tail, other_middle}
use Rattle.linker.proofs.lists.other_leaves.Goals as goal

pub returns-then-next-eq0 : goal.returns-then-next-eq0
returns-then-next-eq0 c =
    let a = c.args in
    other_tail a.at a.crs a.base a.next a.previous (a.w.now, a.trace.now) c.if-next-eq0.true c.tail_leaves.ensures

pub returns : goal.returns
returns c =
    let a = c.args in
    other_middle a.at a.crs a.base a.next a.previous (a.w.now, a.trace.now) c.if-next-eq0.false c.middle_leaves.ensures
