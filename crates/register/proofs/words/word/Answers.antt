use Rattle.std.proofs.Common.{◌∙◌}
use Rattle.register.specs.Words.{word_row}
use Rattle.register.proofs.Laws.{word_none}
use Rattle.register.proofs.words.word.Goals as goal

pub returns-then-i-records : goal.returns-then-i-records
returns-then-i-records c = c.load32.ensures ∙ word_row _ _ c.if-i-records.true

pub returns : goal.returns
returns c = word_none _ _ c.if-i-records.false
