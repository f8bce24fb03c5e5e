use Rattle.desk_spec.specs.Command.{buffer_word}
use Rattle.desk.proofs.command.Laws.{load-elsewhere, load_here}
use Rattle.desk.proofs.command.load_asked.Goals as goal

pub returns-then-not-in_place : goal.returns-then-not-in_place
returns-then-not-in_place c =
    let a = c.args in
    load-elsewhere (buffer_word a.at a.w.now a.p) c.get-source.ensures c.in_place.ensures c.get.ensures c.if-not-in_place.true

pub returns : goal.returns
returns c =
    let a = c.args in
    load_here (buffer_word a.at a.w.now a.p) c.get-source.ensures c.in_place.ensures c.get.ensures c.if-not-in_place.false c.get-2.ensures
    c.get-3.ensures c.get-4.ensures c.get-5.ensures c.get-6.ensures c.get-auto_link.ensures c.get-7.ensures
