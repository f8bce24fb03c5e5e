-- All outside the note is kept, and the word is 0; elsewhere what `note_word` keeps, and the word byte by byte.
use Rattle.window.proofs.TraceLaws.{read32_is, read32_out}
use Rattle.window.proofs.read32_at_edge.Goals as goal

pub returns-then-all_outside : goal.returns-then-all_outside
returns-then-all_outside c =
    let a = c.args in
    read32_out a.at a.w.now a.trace.now a.x c.place_of.ensures c.all_outside.ensures c.if-all_outside.true c.note.ensures

pub returns : goal.returns
returns c =
    let a = c.args in
    read32_is a.at a.w.now a.trace.now a.x c.read32_split.ensures c.note_word.ensures
