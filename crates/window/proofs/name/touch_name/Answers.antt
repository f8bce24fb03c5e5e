-- In a row inside the trace stays, `row_inside`. The invariant elsewhere: what is left to read leaves what the whole name leaves.
use Rattle.std.proofs.Common.{ap, ◌∙◌, arith}
use Rattle.window.specs.TraceRuns.{left}
use Rattle.window.specs.Name.{name_some}
use Rattle.window.proofs.name.Laws.{name_nothing, name_end, name-next, name_full, row_inside}
use Rattle.window.proofs.name.touch_name.Goals as goal

pub returns-then-p-eq0 : goal.returns-then-p-eq0
returns-then-p-eq0 c =
    let a = c.args in
    ap left (name_nothing a.at a.address (a.w.now, a.trace.now) c.if-p-eq0.true)

pub returns-then-in_row : goal.returns-then-in_row
returns-then-in_row c =
    let a = c.args in
    let r = c.in_row.ensures c.if-in_row.true in
    row_inside a.at a.address a.w.now a.trace.now c.place_of.ensures r.0 r.1 c.if-p-eq0.false

pub returns-then-read8-eq0 : goal.returns-then-read8-eq0
returns-then-read8-eq0 c =
    let e = name_end _ 512 _ _ _ c.loop-n-test.true c.read8.ensures c.if-read8-eq0.true in
    rw (name_some _ c.if-p-eq0.false) (ap left e ∙ c.loop-n.invariant.2)

pub loop-n-preserved : goal.loop-n-preserved
loop-n-preserved c =
    let l = c.loop-n in
    let e = name-next _ 512 _ _ _ c.loop-n-test.true c.read8.ensures c.if-read8-eq0.false c.wrapping_add_u32-p.ensures.value in
    (omega arith, c.read8.auto.trace ∙ l.invariant.1, ap left e ∙ l.invariant.2)

pub returns : goal.returns
returns c =
    let l = c.loop-n in
    rw (name_some _ c.if-p-eq0.false) (ap left (name_full _ 512 _ _ _ c.loop-n-test.false) ∙ l.invariant.2)
