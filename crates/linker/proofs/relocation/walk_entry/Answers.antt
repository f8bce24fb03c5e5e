-- Entry and segment inside: `inside_nowhere`, `inside-at`; else it is `walk_anywhere`.
use Rattle.std.proofs.Common.{length, sym, refl, ◌∙◌, arith}
use Rattle.window.specs.Row.{row_stands}
use Rattle.layout.proofs.SegmentRow.{segment-inside}
use Rattle.linker.proofs.relocation.Walk.{inside_nowhere, inside-at}
use Rattle.linker.proofs.relocation.walk_entry.Goals as goal

pub load32-requires : goal.load32-requires
load32-requires c =
    let a = c.args in
    omega (arith, (row_stands a.at (length a.w.now) a.entry _ (sym c.row_of.ensures ∙ c.in-Some.is)).2)

pub overflow_add-end : goal.overflow_add-end
overflow_add-end c =
    let a = c.args in
    omega (arith, (row_stands a.at (length a.w.now) a.entry _ (sym c.row_of.ensures ∙ c.in-Some.is)).1)

pub bounds-w-i : goal.bounds-w-i
bounds-w-i c =
    let a = c.args in
    omega (arith, (row_stands a.at (length a.w.now) a.entry _ (sym c.row_of.ensures ∙ c.in-Some.is)).2)

pub overflow_add-s : goal.overflow_add-s
overflow_add-s c =
    let a = c.args in
    omega (arith, segment-inside a.at a.w.now a.base c.segment.result (sym c.segment_row.ensures ∙ c.in-Some-segment_row.is))

pub load32-requires-2 : goal.load32-requires-2
load32-requires-2 c =
    let a = c.args in
    omega (arith, segment-inside a.at a.w.now a.base c.segment.result (sym c.segment_row.ensures ∙ c.in-Some-segment_row.is))

pub returns-then-offset-load32 : goal.returns-then-offset-load32
returns-then-offset-load32 c =
    let a = c.args in
    inside_nowhere a.at a.base a.symbol a.entry a.w.now a.trace.now
    (row_stands a.at (length a.w.now) a.entry _ (sym c.row_of.ensures ∙ c.in-Some.is))
    c.load32.ensures c.segment.ensures (sym c.segment_row.ensures ∙ c.in-Some-segment_row.is) refl c.offset-offset.ensures
    c.load32-2.ensures c.if-offset-load32.true

pub load32-requires-3 : goal.load32-requires-3
load32-requires-3 c =
    let a = c.args in
    omega (arith, segment-inside a.at a.w.now a.base c.segment.result (sym c.segment_row.ensures ∙ c.in-Some-segment_row.is))

pub overflow_add-i : goal.overflow_add-i
overflow_add-i c =
    let a = c.args in
    omega (arith, (row_stands a.at (length a.w.now) a.entry _ (sym c.row_of.ensures ∙ c.in-Some.is)).1)

pub bounds-w-i-2 : goal.bounds-w-i-2
bounds-w-i-2 c =
    let a = c.args in
    omega (arith, (row_stands a.at (length a.w.now) a.entry _ (sym c.row_of.ensures ∙ c.in-Some.is)).2)

pub overflow_add-i-2 : goal.overflow_add-i-2
overflow_add-i-2 c =
    let a = c.args in
    omega (arith, (row_stands a.at (length a.w.now) a.entry _ (sym c.row_of.ensures ∙ c.in-Some.is)).1)

pub load32-addend-requires : goal.load32-addend-requires
load32-addend-requires c =
    let a = c.args in
    omega (arith, (row_stands a.at (length a.w.now) a.entry _ (sym c.row_of.ensures ∙ c.in-Some.is)).2)

pub returns : goal.returns
returns c =
    let a = c.args in
    inside-at a.at a.base a.symbol a.entry a.w.now a.trace.now
    (row_stands a.at (length a.w.now) a.entry _ (sym c.row_of.ensures ∙ c.in-Some.is))
    c.load32.ensures c.segment.ensures (sym c.segment_row.ensures ∙ c.in-Some-segment_row.is) refl c.offset-offset.ensures
    c.load32-2.ensures c.if-offset-load32.false c.load32-3.ensures c.wrapping_add_u32-target.ensures.value refl c.from-kind.ensures
    c.load32-addend.ensures c.apply_relocation.ensures
