-- The first note is kept: `note_had`, `note_new`.
use Rattle.window.proofs.TraceLaws.{note_had, note_new}
use Rattle.window.proofs.note.Goals as goal

pub returns-then-said : goal.returns-then-said
returns-then-said c = note_had c.args.x c.args.trace.now c.said.ensures c.if-said.true

pub returns : goal.returns
returns c = note_new c.args.x c.args.trace.now c.said.ensures c.if-said.false c.write32.ensures c.write32-2.ensures
