-- The tests refuse, or the call over a trace of which nothing is said: `call-refused`, `call-answered`.
use Rattle.std.proofs.Common.{sym, ap, ◌∙◌, Ok}
use Rattle.linker_spec.specs.Refusal.{refusal-not-0, number_of}
use Rattle.window.specs.Access.{ret}
use Rattle.linker_spec.specs.Outcome.{unload_outcome, buffers}
use Rattle.linker_spec.specs.Touches.{unload_touches}
use Rattle.linker_spec.specs.Calls as calls
use Rattle.fillqhano.proofs.Laws.{tests_pass, call-refused, call-answered, answer_outcome}
use Rattle.fillqhano.proofs.unload.Goals as goal

pub returns-in-Err : goal.returns-in-Err
unfolding unload_outcome unload_touches
returns-in-Err c =
    let a = c.args in
    let b = buffers a.window.now a.records.now a.names.now a.missing.now in
    let both =
    call-refused (λ records names. calls.unload a.base) (ret tt) a.at b (c.from.ensures ∙ sym (ap number_of c.in-Err.is) ∙ c.check_buffers.ensures)
    (λ zero. refusal-not-0 c.in-Err.refusal (sym c.from.ensures ∙ zero)) c.clear.ensures in
    record { answered = both.0; touches = both.1 }

pub unload-unloaded-requires : goal.unload-unloaded-requires
unload-unloaded-requires c = (tests_pass _ _ c.check_buffers.ensures (ap number_of c.in_default.is)).1

pub returns : goal.returns
unfolding unload_outcome unload_touches
returns c =
    let a = c.args in
    let b = buffers a.window.now a.records.now a.names.now a.missing.now in
    let both =
    call-answered (λ records names. calls.unload a.base) (ret tt) a.at b c.check_buffers.ensures (ap number_of c.in_default.is)
    c.unload-unloaded.ensures c.tell.ensures in
    record {
      answered = answer_outcome (Ok c.unload-unloaded.result) {n = c.answer.result} {v = c.answer.new.value} c.answer.ensures.done c.answer.ensures.refused both.0;
      touches = both.1;
    }
