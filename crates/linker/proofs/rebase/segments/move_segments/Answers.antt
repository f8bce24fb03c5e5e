-- A counted loop up to the first refusal: `segments-start`, `segments_on`, `moved-past`, `segments-refused`, `turns-over`.
use Rattle.std.proofs.Common.{◌∙◌, arith, Some}
use Rattle.window.specs.Outside.{silent_goes}
use Rattle.linker_spec.specs.Rebase.{move_segment}
use Rattle.window.specs.TraceRuns.{turns-over}
use Rattle.linker.proofs.rebase.Laws.{segments-start, segments-refused, segments_on}
use Rattle.linker.proofs.rebase.Outside.{moved-past}
use Rattle.linker.proofs.rebase.segments.move_segments.Goals as goal

pub returns-in_err-old : goal.returns-in_err-old
returns-in_err-old c =
    let a = c.args in
    rw c.from_residual.ensures
    (segments-refused a.at a.lent (c.loop-index.w, c.loop-index.trace) c.loop-index.index c.field-count.result (Some c.loop-index.old) c.loop-index.invariant.2
    c.loop-index-test.true c.move_segment.ensures c.in_err-old.was)
    ∙ segments-start a.at a.lent (a.w.now, a.trace.now) c.field-count.ensures

pub overflow_add-index : goal.overflow_add-index
overflow_add-index c = omega (arith, silent_goes _ _ _ _ _ _ c.segment_stride-index.ensures (omega arith))

pub loop-index-smaller : goal.loop-index-smaller
loop-index-smaller c = omega (arith, silent_goes _ _ _ _ _ _ c.segment_stride-index.ensures (omega arith))

pub loop-index-preserved : goal.loop-index-preserved
loop-index-preserved c =
    let a = c.args in (
      omega (arith, silent_goes _ _ _ _ _ _ c.segment_stride-index.ensures (omega arith)),
      c.move_segment.auto.w ∙ c.loop-index.invariant.1,
      moved-past a.at c.loop-index.index c.field-count.result _ _ c.loop-index-test.true a.lent _
          (segments_on a.at a.lent (c.loop-index.w, c.loop-index.trace) c.loop-index.index c.field-count.result (Some c.loop-index.old) c.loop-index.invariant.2
          c.loop-index-test.true c.move_segment.ensures c.in_ok-old.was)
          c.segment_stride-index.ensures,
      c.move_segment.auto.trace ∙ c.loop-index.invariant.3,
    )

pub returns : goal.returns
returns c =
    let a = c.args in
    turns-over a.at (move_segment a.lent) c.loop-index.index c.field-count.result (Some c.loop-index.old) (c.loop-index.w, c.loop-index.trace)
    c.loop-index.invariant.2 c.loop-index-test.false
    ∙ segments-start a.at a.lent (a.w.now, a.trace.now) c.field-count.ensures
