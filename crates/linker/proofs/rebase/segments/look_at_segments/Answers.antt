-- Looked up one by one until all are or a touch is kept: `looks_start`, `looks_silent`, `turn_made`, `turns-over`.
use Rattle.std.proofs.Common.{sym, refl, ap, ◌∙◌, arith}
use Rattle.window.specs.TraceRuns.{turn_made, turns-over, left}
use Rattle.linker.proofs.rebase.Laws.{look_at, looks_start, look_made, looks_silent}
use Rattle.linker.proofs.rebase.segments.look_at_segments.Goals as goal

pub loop-i-init : goal.loop-i-init
loop-i-init c = (omega arith, refl, refl)

pub returns-then-said : goal.returns-then-said
returns-then-said c =
    let a = c.args in
    looks_silent a.at a.base c.loop-i.i c.field-count.result a.w.now c.loop-i.trace c.loop-i.invariant.1
    (sym c.said.ensures ∙ c.if-said.true)
    ∙ ap left (looks_start a.at a.base (a.w.now, a.trace.now) c.field-count.ensures)

pub loop-i-preserved : goal.loop-i-preserved
loop-i-preserved c =
    let a = c.args in (
      omega arith,
      turn_made a.at (look_at a.base) c.loop-i.i c.field-count.result tt (a.w.now, c.loop-i.trace) c.loop-i.invariant.1
          c.loop-i-test.true (look_made a.at a.base c.loop-i.i (a.w.now, c.loop-i.trace) c.segment.ensures),
      c.segment.auto.trace ∙ c.loop-i.invariant.2,
    )

pub returns : goal.returns
returns c =
    let a = c.args in
    ap left
    (turns-over a.at (look_at a.base) c.loop-i.i c.field-count.result tt (a.w.now, c.loop-i.trace) c.loop-i.invariant.1 c.loop-i-test.false
    ∙ looks_start a.at a.base (a.w.now, a.trace.now) c.field-count.ensures)
