use borrow.Author.Tests.{lt-leb}
use Rattle.session.proofs.head.Laws.{window_left}
use Rattle.session.specs.Head.{head_word}
use Rattle.session.proofs.head.are_parts_inside.Goals as goal

pub returns-then-file-table_end : goal.returns-then-file-table_end
unfolding head_word
returns-then-file-table_end c = simp (← c.word.ensures, ← c.word-2.ensures, lt-leb _ _ c.if-file-table_end.true)

pub returns : goal.returns
unfolding head_word
returns c = window_left _ c.word.ensures c.word-2.ensures
    c.if-file-table_end.false c.word-3.ensures c.word-4.ensures
