-- All outside the note is kept, and nothing stored; elsewhere what `note_word` keeps, and the word byte by byte.
use Rattle.window.proofs.TraceLaws.{write32_is, write32_out}
use Rattle.window.proofs.write32_at_edge.Goals as goal

pub returns-then-all_outside : goal.returns-then-all_outside
returns-then-all_outside c =
    let a = c.args in
    write32_out a.at a.w.now a.trace.now a.x c.place_of.ensures c.all_outside.ensures c.if-all_outside.true c.note.ensures a.v

pub returns : goal.returns
returns c =
    let a = c.args in
    write32_is a.at a.w.now a.trace.now a.x a.v c.write32_split.ensures c.note_word.ensures
