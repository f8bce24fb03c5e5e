use Rattle.desk.proofs.command.Laws.{word_read}
use Rattle.desk.proofs.command.get.Goals as goal

pub returns : goal.returns
returns c =
    let a = c.args in
    word_read a.at a.w.now _ _ a.p a.i c.word_place.ensures c.read32.ensures
