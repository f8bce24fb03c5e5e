-- By the word that says which call it is.
use Rattle.call_cases.proofs.call.Laws.{stored-initialize, stored-load, stored-unload}
use Rattle.call_cases.proofs.call.stored_call.Goals as goal

pub returns-in-1 : goal.returns-in-1
returns-in-1 c = stored-initialize _ c.args.at c.word-base.ensures c.word-size.ensures c.word.ensures c.in-1.is

pub returns-in-2 : goal.returns-in-2
returns-in-2 c =
    stored-load _ c.args.at c.word-base.ensures c.word-size.ensures c.word.ensures c.in-2.is c.word-in-2.ensures c.word-in-2-2.ensures
    c.word-in-2-3.ensures c.word-in-2-4.ensures c.word-in-2-5.ensures c.word-in-2-6.ensures

pub returns-in_default : goal.returns-in_default
returns-in_default c =
    let m = c.in_default.in_default-own.rest in
    stored-unload _ c.args.at c.word-base.ensures c.word-size.ensures c.word.ensures m.0.1 m.1
