use mathlib.Core.Path.{◌∙◌}
use Rattle.writer.proofs.bytes.Laws.{word-past, word-inside}
use Rattle.writer.proofs.bytes.word.Goals as goal

pub returns-then-bytes-o : goal.returns-then-bytes-o
returns-then-bytes-o c = word-past _ _ c.if-bytes-o.true

pub returns-then-bytes-o-ge4 : goal.returns-then-bytes-o-ge4
returns-then-bytes-o-ge4 c = c.load32.ensures ∙ word-inside _ _
