-- The tests refuse, or the call over a trace of which nothing is said: `call-refused`, `call-answered`.
use Rattle.std.proofs.Common.{sym, ap, ◌∙◌}
use Rattle.linker_spec.specs.Refusal.{refusal-not-0, number_of}
use mathlib.Core.Bool.{not}
use lib.Dec.{eqb}
use Rattle.linker_spec.specs.Outcome.{load_outcome, buffers, load_arguments}
use Rattle.linker_spec.specs.Touches.{up_to_reset, load_touches}
use Rattle.linker_spec.specs.Calls as calls
use Rattle.fillqhano.proofs.Laws.{tests_pass, call-refused, call-answered, answer_outcome}
use Rattle.fillqhano.proofs.load.Goals as goal

pub returns-in-Err : goal.returns-in-Err
unfolding load_outcome load_touches
returns-in-Err c =
    let a = c.args in
    let b = buffers a.window.now a.records.now a.names.now a.missing.now in
    let l = load_arguments a.base a.size a.data_segment a.data_segment_size a.bss_segment a.bss_segment_size in
    let both =
    call-refused (calls.load l (not (eqb a.auto_link 0)) a.fix_level) (up_to_reset (calls.rebase l) a.base) a.at b (c.from.ensures ∙ sym (ap number_of c.in-Err.is) ∙ c.check_buffers.ensures)
    (λ zero. refusal-not-0 c.in-Err.refusal (sym c.from.ensures ∙ zero)) c.clear.ensures in
    record { answered = both.0; touches = both.1 }

pub load-loaded-requires : goal.load-loaded-requires
load-loaded-requires c = (tests_pass _ _ c.check_buffers.ensures (ap number_of c.in_default.is)).1

pub returns : goal.returns
unfolding load_outcome load_touches
returns c =
    let a = c.args in
    let b = buffers a.window.now a.records.now a.names.now a.missing.now in
    let l = load_arguments a.base a.size a.data_segment a.data_segment_size a.bss_segment a.bss_segment_size in
    let both =
    call-answered (calls.load l (not (eqb a.auto_link 0)) a.fix_level) (up_to_reset (calls.rebase l) a.base) a.at b c.check_buffers.ensures (ap number_of c.in_default.is)
    c.load-loaded.ensures c.tell.ensures in
    record {
      answered = answer_outcome c.load-loaded.result {n = c.answer.result} {v = c.answer.new.value} c.answer.ensures.done c.answer.ensures.refused both.0;
      touches = both.1;
    }
