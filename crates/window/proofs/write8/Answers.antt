-- Inside nothing is kept, outside the access.
use Rattle.std.proofs.Common.{rules}
use Rattle.window.proofs.Laws.{put_in, put_out}
use Rattle.window.proofs.TraceLaws.{write8_is, saw_byte_in, saw_byte_out}
use Rattle.window.proofs.write8.Goals as goal

pub returns-then-i-w : goal.returns-then-i-w
returns-then-i-w c =
    write8_is c.args.at c.args.w.now c.args.trace.now c.args.x c.args.b (put_in _ _ _ _ _ c.place_of-i.ensures (search rules))
    (saw_byte_in _ _ _ _ c.place_of-i.ensures c.if-i-w.true)

pub returns : goal.returns
returns c =
    write8_is c.args.at c.args.w.now c.args.trace.now c.args.x c.args.b (put_out _ _ _ _ _ c.place_of-i.ensures c.if-i-w.false)
    (saw_byte_out _ _ _ _ c.place_of-i.ensures c.if-i-w.false c.note.ensures)
