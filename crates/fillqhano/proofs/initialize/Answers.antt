-- The tests refuse, or the call over a trace of which nothing is said: `call-refused`, `call-answered`.
use Rattle.std.proofs.Common.{sym, ap, ◌∙◌}
use Rattle.linker_spec.specs.Refusal.{refusal-not-0, number_of}
use Rattle.linker_spec.specs.Outcome.{initialize_outcome, buffers}
use Rattle.linker_spec.specs.Touches.{up_to_reset, initialize_touches}
use Rattle.linker_spec.specs.Calls as calls
use Rattle.fillqhano.proofs.Laws.{tests_pass, call-refused, call-answered, answer_outcome}
use Rattle.fillqhano.proofs.initialize.Goals as goal

pub returns-in-Err : goal.returns-in-Err
unfolding initialize_outcome initialize_touches
returns-in-Err c =
    let a = c.args in
    let b = buffers a.window.now a.records.now a.names.now a.missing.now in
    let both =
    call-refused (calls.initialize a.base a.size) (up_to_reset (calls.rebase_static a.base) a.base) a.at b (c.from.ensures ∙ sym (ap number_of c.in-Err.is) ∙ c.check_buffers.ensures)
    (λ zero. refusal-not-0 c.in-Err.refusal (sym c.from.ensures ∙ zero)) c.clear.ensures in
    record { answered = both.0; touches = both.1 }

pub initialize-initialized-requires : goal.initialize-initialized-requires
initialize-initialized-requires c = (tests_pass _ _ c.check_buffers.ensures (ap number_of c.in_default.is)).1

pub returns : goal.returns
unfolding initialize_outcome initialize_touches
returns c =
    let a = c.args in
    let b = buffers a.window.now a.records.now a.names.now a.missing.now in
    let both =
    call-answered (calls.initialize a.base a.size) (up_to_reset (calls.rebase_static a.base) a.base) a.at b c.check_buffers.ensures (ap number_of c.in_default.is)
    c.initialize-initialized.ensures c.tell.ensures in
    record {
      answered = answer_outcome c.initialize-initialized.result {n = c.answer.result} {v = c.answer.new.value} c.answer.ensures.done c.answer.ensures.refused both.0;
      touches = both.1;
    }
