-- Where the four places are in a row the word stored in them is `put_word`; elsewhere the callee stores it byte by byte.
use Rattle.std.proofs.Common.{◌∙◌}
use Rattle.window.proofs.Laws.{whole_row, row_put}
use Rattle.window.proofs.plain.write32.Goals as goal

pub store32-requires : goal.store32-requires
store32-requires c = (whole_row _ _ c.whole.ensures c.if-whole.true).1

pub returns-then-whole : goal.returns-then-whole
returns-then-whole c =
    c.store32.ensures
    ∙ row_put _ _ _ _ c.place_of-i.ensures (whole_row _ _ c.whole.ensures c.if-whole.true).0 _
