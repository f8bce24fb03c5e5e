-- All that is read is inside and in a row: `segment_in`; elsewhere it is `segment_anywhere`.
use Rattle.std.proofs.Common.{sym, ◌∙◌, arith}
use Rattle.layout.proofs.SegmentRow.{segment-inside, segment_in}
use Rattle.layout.proofs.segments.segment.Goals as goal

pub load32-requires : goal.load32-requires
load32-requires c =
    let a = c.args in
    omega (arith, segment-inside a.at a.w.now a.base a.index (sym c.segment_row.ensures ∙ c.in-Some.is))

pub overflow_add-i : goal.overflow_add-i
overflow_add-i c =
    let a = c.args in
    omega (arith, segment-inside a.at a.w.now a.base a.index (sym c.segment_row.ensures ∙ c.in-Some.is))

pub load32-requires-2 : goal.load32-requires-2
load32-requires-2 c =
    let a = c.args in
    omega (arith, segment-inside a.at a.w.now a.base a.index (sym c.segment_row.ensures ∙ c.in-Some.is))

pub overflow_add-i-2 : goal.overflow_add-i-2
overflow_add-i-2 c =
    let a = c.args in
    omega (arith, segment-inside a.at a.w.now a.base a.index (sym c.segment_row.ensures ∙ c.in-Some.is))

pub load32-requires-3 : goal.load32-requires-3
load32-requires-3 c =
    let a = c.args in
    omega (arith, segment-inside a.at a.w.now a.base a.index (sym c.segment_row.ensures ∙ c.in-Some.is))

pub returns : goal.returns
returns c =
    let a = c.args in
    segment_in a.at a.w.now a.base a.index (sym c.segment_row.ensures ∙ c.in-Some.is) a.trace.now
    c.load32.ensures c.load32-2.ensures c.load32-3.ensures c.from.ensures
