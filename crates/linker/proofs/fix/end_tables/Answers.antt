-- A counted loop; the fields stay below the header's size.
use Rattle.std.proofs.Common.{◌+◌, ◌*◌, ◌/◌, refl, ◌∙◌, arith}
use Rattle.layout.specs.Segments.{set_field}
use Rattle.window.specs.TraceRuns.{step_made, steps-over}
use Rattle.linker.proofs.fix.Laws.{dropped_start}
use Rattle.linker.proofs.fix.end_tables.Goals as goal

pub loop-i-init : goal.loop-i-init
loop-i-init c =
    let a = c.args in
    (omega arith, refl, dropped_start a.at a.base a.barrier a.end (a.w.now, a.trace.now) c.saturating_sub-count.ensures, refl)

pub loop-i-preserved : goal.loop-i-preserved
loop-i-preserved c =
    let a = c.args in (
      omega arith,
      c.set_field.auto.w ∙ c.loop-i.invariant.1,
      step_made a.at (λ x. set_field a.base x a.end) (λ i. a.barrier + 8 * i) c.loop-i.i (c.saturating_sub-count.result / 8)
          (c.loop-i.w, c.loop-i.trace) c.loop-i.invariant.2 c.loop-i-test.true refl c.set_field.ensures,
      c.set_field.auto.trace ∙ c.loop-i.invariant.3,
    )

pub returns : goal.returns
returns c =
    let a = c.args in
    steps-over a.at (λ x. set_field a.base x a.end) (λ i. a.barrier + 8 * i) c.loop-i.i (c.saturating_sub-count.result / 8)
    (c.loop-i.w, c.loop-i.trace) c.loop-i.invariant.2 c.loop-i-test.false
