-- Inside nothing is kept, outside the access.
use Rattle.window.proofs.Laws.{byte_in, byte_out}
use Rattle.window.proofs.TraceLaws.{read8_is, saw_byte_in, saw_byte_out}
use Rattle.window.proofs.read8.Goals as goal

pub returns-then-i-w : goal.returns-then-i-w
returns-then-i-w c =
    read8_is c.args.at c.args.w.now c.args.trace.now c.args.x (byte_in _ _ _ _ c.place_of-i.ensures)
    (saw_byte_in _ _ _ _ c.place_of-i.ensures c.if-i-w.true)

pub returns : goal.returns
returns c =
    read8_is c.args.at c.args.w.now c.args.trace.now c.args.x (byte_out _ _ _ _ c.place_of-i.ensures c.if-i-w.false)
    (saw_byte_out _ _ _ _ c.place_of-i.ensures c.if-i-w.false c.note.ensures)
