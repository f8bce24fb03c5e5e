use Rattle.desk_spec.specs.Command.{buffer_word}
use Rattle.desk.proofs.command.Laws.{initialize-elsewhere, initialize_here}
use Rattle.desk.proofs.command.initialize_asked.Goals as goal

pub returns-then-not-in_place : goal.returns-then-not-in_place
returns-then-not-in_place c =
    let a = c.args in
    initialize-elsewhere (buffer_word a.at a.w.now a.p) c.get-source.ensures c.in_place.ensures c.get.ensures c.if-not-in_place.true

pub returns : goal.returns
returns c =
    let a = c.args in
    initialize_here (buffer_word a.at a.w.now a.p) c.get-source.ensures c.in_place.ensures c.get.ensures c.if-not-in_place.false c.get-2.ensures
