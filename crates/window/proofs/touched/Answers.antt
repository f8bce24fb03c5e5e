-- Word 1: `touched_is`.
use Rattle.window.proofs.TraceLaws.{touched_is}
use Rattle.window.proofs.touched.Goals as goal

pub returns : goal.returns
returns c = touched_is c.args.trace.now c.read32.ensures
