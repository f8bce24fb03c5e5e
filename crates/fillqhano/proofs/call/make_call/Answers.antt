-- The exported call that it is, with both its clauses.
use Rattle.linker_spec.specs.Outcome.{buffers}
use Rattle.history.specs.Sessions.{WordArguments}
use Rattle.fillqhano.proofs.call.Laws.{is_initialize, is_load, is_unload}
use Rattle.fillqhano.proofs.call.make_call.Goals as goal

pub returns-in-Initialize : goal.returns-in-Initialize
returns-in-Initialize c =
    let a = c.args in
    let b = buffers a.window.now a.records.now a.names.now a.missing.now in
    let k = c.in-Initialize.known_told-1-own.given in
    let all = is_initialize a.at b c.in-Initialize.is k.0.1 k.1.0.1 (c.initialize.ensures.answered, c.initialize.ensures.touches) in
    record { answered = all.0; touches = all.1.0; words = all.1.1 }

pub returns-in-Load : goal.returns-in-Load
unfolding WordArguments
returns-in-Load c =
    let a = c.args in
    let b = buffers a.window.now a.records.now a.names.now a.missing.now in
    let l = c.in-Load.known_told-in-Load-1-own.given.0.1.1 in
    let r = c.in-Load.known_told-in-Load-1-own.given.1 in
    let all = is_load a.at b c.in-Load.is (l.0.1, l.1.0.1, l.1.1.0.1, l.1.1.1.0.1, l.1.1.1.1.0.1, l.1.1.1.1.1.0.1, r.0.1, r.1.0.1) (c.load.ensures.answered, c.load.ensures.touches) in
    record { answered = all.0; touches = all.1.0; words = all.1.1 }

pub returns-in-Unload : goal.returns-in-Unload
returns-in-Unload c =
    let a = c.args in
    let b = buffers a.window.now a.records.now a.names.now a.missing.now in
    let all = is_unload a.at b c.in-Unload.is c.in-Unload.known_told-in-Unload-1-own.given.0.1 (c.unload.ensures.answered, c.unload.ensures.touches) in
    record { answered = all.0; touches = all.1.0; words = all.1.1 }
