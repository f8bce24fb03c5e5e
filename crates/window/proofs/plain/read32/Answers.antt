-- Where the four places are in a row the word in them is `word_at`; elsewhere the callee reads it byte by byte.
use Rattle.std.proofs.Common.{◌∙◌}
use Rattle.window.proofs.Laws.{whole_row, row_word}
use Rattle.window.proofs.plain.read32.Goals as goal

pub load32-requires : goal.load32-requires
load32-requires c = (whole_row _ _ c.whole.ensures c.if-whole.true).1

pub returns-then-whole : goal.returns-then-whole
returns-then-whole c =
    c.load32.ensures
    ∙ row_word _ _ _ _ c.place_of-i.ensures
    (whole_row _ _ c.whole.ensures c.if-whole.true).0
