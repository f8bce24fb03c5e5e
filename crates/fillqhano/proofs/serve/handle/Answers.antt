-- By the command: the call and its reply, a reply alone, or nothing.
use Rattle.linker_spec.specs.Outcome.{buffers}
use Rattle.fillqhano.proofs.serve.Laws.{handled-call, handled-elsewhere, handled_acknowledged, handled_unknown}
use Rattle.fillqhano.proofs.serve.handle.Goals as goal

pub returns-in-Call : goal.returns-in-Call
returns-in-Call c =
    let a = c.args in
    let b = buffers a.window.now a.records.now a.names.now a.missing.now in
    handled-call a.at a.p b c.id_at-id.ensures c.command_at.ensures c.in-Call.is (c.make_call-number.ensures.answered, c.make_call-number.ensures.touches) c.reply_to.ensures

pub returns-in-Elsewhere : goal.returns-in-Elsewhere
returns-in-Elsewhere c =
    let a = c.args in
    let b = buffers a.window.now a.records.now a.names.now a.missing.now in
    handled-elsewhere a.at a.p b c.id_at-id.ensures c.command_at.ensures c.clear.ensures c.in-Elsewhere.is c.reply_error.ensures

pub returns-in-Acknowledged : goal.returns-in-Acknowledged
returns-in-Acknowledged c =
    let a = c.args in
    let b = buffers a.window.now a.records.now a.names.now a.missing.now in
    handled_acknowledged a.at a.p b c.id_at-id.ensures c.command_at.ensures c.clear.ensures c.in-Acknowledged.is c.reply_done.ensures

pub returns-in-Unknown : goal.returns-in-Unknown
returns-in-Unknown c =
    let a = c.args in
    let b = buffers a.window.now a.records.now a.names.now a.missing.now in
    handled_unknown a.at a.p b c.id_at-id.ensures c.command_at.ensures c.clear.ensures c.in-Unknown.is
