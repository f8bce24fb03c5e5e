-- No such segment, or its place: `segment-passed` and `segment-moved`.
use Rattle.linker.proofs.rebase.Laws.{segment-passed, segment-moved}
use Rattle.linker.proofs.rebase.segments.move_segment.Goals as goal

pub returns-in_default : goal.returns-in_default
returns-in_default c =
    let a = c.args in
    segment-passed a.at a.lent a.index a.old (a.w.now, a.trace.now) c.segment.ensures
    c.in_default.is

pub returns : goal.returns
returns c =
    let a = c.args in
    segment-moved a.at a.lent a.index a.old (a.w.now, a.trace.now) c.segment.ensures
    c.in-Some.is c.place.ensures c.write_back.ensures
