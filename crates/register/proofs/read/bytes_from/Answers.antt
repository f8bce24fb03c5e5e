use Rattle.register.proofs.read.Laws.{rest_none}
use Rattle.register.proofs.Laws.{rest_of}
use Rattle.register.proofs.read.bytes_from.Goals as goal

pub returns-then-n-place : goal.returns-then-n-place
returns-then-n-place c = rest_none _ _ c.if-n-place.true

pub returns : goal.returns
returns c = rest_of c.args.bytes.now c.args.place
