-- Test by test: `segment_row`.
use Rattle.std.proofs.Common.{arith}
use Rattle.layout.proofs.SegmentRow.{head-elsewhere, head_stands, none_such, entry_row_lem}
use Rattle.layout.proofs.segments.segment_row.Goals as goal

pub returns-in_err-head : goal.returns-in_err-head
returns-in_err-head c =
    let a = c.args in
    rw c.from_residual.ensures
    (head-elsewhere a.at a.w.now a.base a.index c.wrapping_add_u32.ensures.value c.row_of.ensures c.in_err-head.was)

pub overflow_add-head : goal.overflow_add-head
overflow_add-head c =
    let a = c.args in
    omega (arith, (head_stands a.at a.w.now a.base a.index c.wrapping_add_u32.ensures.value c.row_of.ensures c.in_ok-head.was).1)

pub load32-requires : goal.load32-requires
load32-requires c =
    let a = c.args in
    omega (arith, (head_stands a.at a.w.now a.base a.index c.wrapping_add_u32.ensures.value c.row_of.ensures c.in_ok-head.was).2)

pub returns-then-index-load32 : goal.returns-then-index-load32
returns-then-index-load32 c =
    let a = c.args in
    none_such a.at a.w.now a.base a.index c.wrapping_add_u32.ensures.value c.row_of.ensures c.in_ok-head.was
    c.load32.ensures c.if-index-load32.true

pub load32-requires-2 : goal.load32-requires-2
load32-requires-2 c =
    let a = c.args in
    omega (arith, (head_stands a.at a.w.now a.base a.index c.wrapping_add_u32.ensures.value c.row_of.ensures c.in_ok-head.was).2)

pub returns : goal.returns
returns c =
    let a = c.args in
    entry_row_lem a.at a.w.now a.base a.index c.wrapping_add_u32.ensures.value c.row_of.ensures c.in_ok-head.was
    c.load32.ensures c.if-index-load32.false c.load32-2.ensures c.entry_address-entry.ensures c.row_of-2.ensures
