-- Word 2: `first_is`.
use Rattle.window.proofs.TraceLaws.{first_is}
use Rattle.window.proofs.first.Goals as goal

pub returns : goal.returns
returns c = first_is c.args.trace.now c.read32.ensures
