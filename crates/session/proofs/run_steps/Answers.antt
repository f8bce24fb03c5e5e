use Rattle.std.proofs.Common.{◌≡◌, ap, ◌∙◌}
use Rattle.linker_spec.specs.Outcome.{buffers}
use Rattle.text.specs.Puts.{written}
use Rattle.session.specs.Steps.{step_at}
use Rattle.session.specs.Head.{window_address}
use Rattle.session.specs.Ahead.{TextAndBuffers, StepRan, rest-next, rest_over}
use Rattle.session.proofs.run_steps.Goals as goal

pub loop-r-preserved : goal.loop-r-preserved
loop-r-preserved c =
    let a = c.args in
    let l = c.loop-r in
    let n = c.step_count-count.result in
    let first : TextAndBuffers = (written a.text.now, buffers a.window.now a.records.now a.names.now a.missing.now) in
    let before : TextAndBuffers = (written l.text, buffers l.window l.records l.names l.missing) in
    let new = c.run_turn.new in
    let after : TextAndBuffers = (written new.text, buffers new.window new.records new.names new.missing) in
    let step : c.next_step-step.result ≡ step_at a.file.now l.r.next = c.next_step-step.ensures ∙ ap (λ s. step_at s l.r.next) l.invariant.0 in
    let ran : StepRan (step_at a.file.now l.r.next) (window_address a.file.now) l.r.next before after =
    rw (← step, ← c.window_address-address.ensures) c.run_turn.ensures.ran in (
      ap (λ s. s.now) c.advance.ensures.0 ∙ l.invariant.0,
      c.run_turn.ensures.same ∙ l.invariant.1,
      rw c.advance.ensures.1 (rest-next a.file.now n first l.r.next before after c.loop-r-test.true l.invariant.2 ran),
    )

pub returns : goal.returns
returns c =
    let a = c.args in
    let l = c.loop-r in
    let first : TextAndBuffers = (written a.text.now, buffers a.window.now a.records.now a.names.now a.missing.now) in
    record {
      ran =
          rw (← c.step_count-count.ensures)
          (rest_over a.file.now c.step_count-count.result first l.r.next (written l.text, buffers l.window l.records l.names l.missing)
          c.loop-r-test.false l.invariant.2);
      same = l.invariant.1;
    }
