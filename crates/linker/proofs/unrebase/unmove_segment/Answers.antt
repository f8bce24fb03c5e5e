-- No such segment, or its offset back.
use Rattle.linker.proofs.unrebase.Laws.{unmove_passed, unmoved}
use Rattle.linker.proofs.unrebase.unmove_segment.Goals as goal

pub returns-in_default : goal.returns-in_default
returns-in_default c =
    let a = c.args in
    unmove_passed a.at a.base a.index (a.w.now, a.trace.now) c.segment.ensures c.in_default.is

pub returns : goal.returns
returns c =
    let a = c.args in
    unmoved a.at a.base a.index (a.w.now, a.trace.now) c.segment.ensures c.in-Some.is
    c.leaves_as.ensures c.set_segment.ensures
