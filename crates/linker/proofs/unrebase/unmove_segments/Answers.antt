-- A counted loop: `unmove_starts`, `step_made`, `unmoved-past`, `steps-over`.
use Rattle.std.proofs.Common.{refl, ap, ◌∙◌, arith}
use Rattle.window.specs.Outside.{silent_goes}
use Rattle.linker_spec.specs.Unrebase.{unmove_segment}
use Rattle.window.specs.TraceRuns.{step_made, steps-over, left}
use Rattle.linker.proofs.unrebase.Laws.{unmove_starts}
use Rattle.linker.proofs.rebase.Outside.{unmoved-past}
use Rattle.linker.proofs.unrebase.unmove_segments.Goals as goal

pub overflow_add-index : goal.overflow_add-index
overflow_add-index c = omega (arith, silent_goes _ _ _ _ _ _ c.segment_stride-index.ensures (omega arith))

pub loop-index-smaller : goal.loop-index-smaller
loop-index-smaller c = omega (arith, silent_goes _ _ _ _ _ _ c.segment_stride-index.ensures (omega arith))

pub loop-index-preserved : goal.loop-index-preserved
loop-index-preserved c =
    let a = c.args in (
      omega (arith, silent_goes _ _ _ _ _ _ c.segment_stride-index.ensures (omega arith)),
      c.unmove_segment.auto.w ∙ c.loop-index.invariant.1,
      unmoved-past a.at c.loop-index.index c.field-count.result _ _ c.loop-index-test.true a.base
          (step_made a.at (unmove_segment a.base) (λ i. i) c.loop-index.index c.field-count.result (c.loop-index.w, c.loop-index.trace) c.loop-index.invariant.2
          c.loop-index-test.true refl c.unmove_segment.ensures)
          c.segment_stride-index.ensures,
      c.unmove_segment.auto.trace ∙ c.loop-index.invariant.3,
    )

pub returns : goal.returns
returns c =
    let a = c.args in
    steps-over a.at (unmove_segment a.base) (λ i. i) c.loop-index.index c.field-count.result (c.loop-index.w, c.loop-index.trace) c.loop-index.invariant.2
    c.loop-index-test.false
    ∙ ap left (unmove_starts a.at a.base (a.w.now, a.trace.now) c.field-count.ensures)
