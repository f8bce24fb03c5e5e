use Rattle.register.proofs.Laws.{part-past, part-short, part-whole}
use Rattle.register.proofs.words.name_part.Goals as goal

pub returns-then-n-from : goal.returns-then-n-from
returns-then-n-from c = part-past _ _ _ c.if-n-from.true

pub returns-then-n-end : goal.returns-then-n-end
returns-then-n-end c = part-short _ _ _ c.if-n-from.false c.if-n-end.true

pub returns : goal.returns
returns c = part-whole _ _ _
