-- Refused by the tests, idle, or the handling of the oldest buffer: `turn-refused`, `turn-idle`, `turn-served`.
use Rattle.std.proofs.Common.{sym, ap, ◌∙◌}
use Rattle.linker_spec.specs.Refusal.{refusal-not-0, number_of}
use Rattle.linker_spec.specs.Outcome.{buffers}
use Rattle.fillqhano.proofs.Turns.{turn-refused, turn-idle, turn-served}
use Rattle.fillqhano.proofs.turn.Goals as goal

pub returns-in-Err : goal.returns-in-Err
returns-in-Err c =
    let a = c.args in
    let b = buffers a.window.now a.records.now a.names.now a.missing.now in
    turn-refused a.at a.desk.now b (c.from.ensures ∙ sym (ap number_of c.in-Err.is) ∙ c.check_buffers.ensures) c.clear.ensures c.clear-2.ensures
    (λ zero. refusal-not-0 c.in-Err.refusal (sym c.from.ensures ∙ zero))

pub returns-in_default-turn_at : goal.returns-in_default-turn_at
returns-in_default-turn_at c =
    let a = c.args in
    let b = buffers a.window.now a.records.now a.names.now a.missing.now in
    turn-idle a.at a.desk.now b c.check_buffers.ensures c.clear.ensures c.clear-2.ensures (ap number_of c.in_default.is) c.turn_at.ensures c.in_default-turn_at.is

pub caller_at-requires : goal.caller_at-requires
caller_at-requires c = sym c.turn_at.ensures ∙ c.in-Some.is

pub oldest_at-requires : goal.oldest_at-requires
oldest_at-requires c = sym c.turn_at.ensures ∙ c.in-Some.is

pub take_oldest-requires : goal.take_oldest-requires
take_oldest-requires c = sym c.turn_at.ensures ∙ c.in-Some.is

pub returns : goal.returns
returns c =
    let a = c.args in
    let b = buffers a.window.now a.records.now a.names.now a.missing.now in
    turn-served a.at a.desk.now b c.check_buffers.ensures (ap number_of c.in_default.is) c.turn_at.ensures c.in-Some.is c.caller_at.ensures c.oldest_at.ensures
    c.handle-number.ensures c.take_oldest.ensures
