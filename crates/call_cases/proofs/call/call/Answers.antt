-- The stored call, made.
use Rattle.linker_spec.specs.Outcome.{buffers}
use Rattle.call_cases.proofs.call.Laws.{stored_made}
use Rattle.call_cases.proofs.call.call.Goals as goal

pub returns : goal.returns
returns c =
    let a = c.args in
    let b = buffers a.window.now a.records.now a.names.now a.missing.now in
    let made = c.make_call.ensures in
    let all = stored_made _ a.at b c.stored_call.ensures c.word.ensures (made.answered, (made.touches, made.words)) in
    record { answered = all.0; touches = all.1 }
