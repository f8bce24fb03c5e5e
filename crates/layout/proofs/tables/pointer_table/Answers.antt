-- The seven words of a row make the row.
use Rattle.layout.proofs.tables.pointer_table.Goals as goal

pub returns : goal.returns
returns c =
    rw (
      c.pointer_word.ensures,
      c.pointer_word-2.ensures,
      c.pointer_word-3.ensures,
      c.pointer_word-4.ensures,
      c.pointer_word-5.ensures,
      c.pointer_word-6.ensures,
      c.pointer_word-7.ensures,
    )
