-- Word 1 is not 0: `said_is`.
use Rattle.window.proofs.TraceLaws.{said_is}
use Rattle.window.proofs.said.Goals as goal

pub returns : goal.returns
returns c = said_is c.args.trace.now c.read32.ensures
