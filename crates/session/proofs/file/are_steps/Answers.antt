use Rattle.std.proofs.Common.{ap, ◌∙◌, not, arith}
use Rattle.session.specs.File.{are_steps}
use Rattle.session.specs.Steps.{step_at}
use Rattle.session.proofs.file.Laws.{step_bad, step_on}
use Rattle.session.proofs.file.are_steps.Goals as goal

pub loop-r-init : goal.loop-r-init
unfolding are_steps
loop-r-init c = (ap (λ s. s.now) c.new-r.ensures.0, omega arith, ap (are_steps c.args.file.now) c.new-r.ensures.1)

pub returns-then-is_none : goal.returns-then-is_none
returns-then-is_none c =
    let l = c.loop-r in
    let e = c.next_step.ensures ∙ ap (λ s. step_at s l.r.next) l.invariant.0 in
    step_bad c.args.file.now l.r.next c.args.count c.loop-r-test.true e (c.is_none.ensures ∙ ap not c.if-is_none.true)

pub loop-r-preserved : goal.loop-r-preserved
loop-r-preserved c =
    let l = c.loop-r in
    let e = c.next_step.ensures ∙ ap (λ s. step_at s l.r.next) l.invariant.0 in (
      ap (λ s. s.now) c.advance.ensures.0 ∙ l.invariant.0,
      omega arith,
      ap (are_steps c.args.file.now) c.advance.ensures.1
          ∙ step_on c.args.file.now l.r.next l.invariant.2 e (c.is_none.ensures ∙ ap not c.if-is_none.false),
    )
