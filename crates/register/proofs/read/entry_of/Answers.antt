use Rattle.std.proofs.Common.{arith}
use Rattle.register.proofs.read.Laws.{entry_none, entry_at_lem}
use Rattle.register.proofs.read.entry_of.Goals as goal

pub returns-then-list-i : goal.returns-then-list-i
returns-then-list-i c = entry_none c.args.list.now c.args.index (omega arith)

pub returns : goal.returns
returns c = entry_at_lem c.args.list.now c.args.index (omega arith) c.word.ensures
