-- Word k of row i of a flat table (`row_word`); past the last row it is 0 (`no_word`).
use Rattle.std.proofs.Common.{get_or, sym, ap, ◌∙◌}
use lib.ListN.{get_or-eq_default}
use Rattle.layout.specs.declared.tables.PointerTable.{PointerTable}
use Rattle.layout.specs.Tables.{pointer_tables, no_table, pointer_words}
use Rattle.layout.proofs.Laws.{no_word, row_word}
use Rattle.layout.proofs.tables.pointer_word.Goals as goal

pub returns-then-i-lt5 : goal.returns-then-i-lt5
unfolding pointer_tables
returns-then-i-lt5 c = row_word pointer_tables c.args.i c.args.k c.requires

pub returns-else-i-lt5 : goal.returns-else-i-lt5
unfolding pointer_tables
returns-else-i-lt5 c =
    let a = c.args in
    no_word a.k c.requires
    ∙ ap (λ (t : PointerTable). get_or (pointer_words t) a.k 0) (sym (get_or-eq_default pointer_tables no_table c.if-i-lt5.false))
