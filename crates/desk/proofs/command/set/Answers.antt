use Rattle.desk.proofs.command.Laws.{word-written}
use Rattle.desk.proofs.command.set.Goals as goal

pub returns : goal.returns
returns c =
    let a = c.args in
    word-written a.at a.w.now _ _ _ a.p a.i a.v c.word_place.ensures c.write32.ensures
