use Rattle.linker_spec.specs.Outcome.{buffers}
use Rattle.session.proofs.Laws.{is_call, is_bad}
use Rattle.session.proofs.run_step.Goals as goal

pub returns-in-Some : goal.returns-in-Some
returns-in-Some c =
    let a = c.args in
    is_call a.at (buffers a.window.now a.records.now a.names.now a.missing.now) c.in-Some.is c.make_call.ensures.continues

pub returns-in-None : goal.returns-in-None
returns-in-None c =
    let a = c.args in
    is_bad a.at (buffers a.window.now a.records.now a.names.now a.missing.now) c.in-None.is
