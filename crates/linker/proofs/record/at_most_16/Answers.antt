use Rattle.linker.proofs.record.Laws.{at_most_lem, at_most-all}
use Rattle.linker.proofs.record.at_most_16.Goals as goal

pub returns-then-n-gt16 : goal.returns-then-n-gt16
returns-then-n-gt16 c = at_most_lem _ c.if-n-gt16.true

pub returns : goal.returns
returns c = at_most-all _ c.if-n-gt16.false
