-- A wrapped difference is `place`, by definition.
use Rattle.std.proofs.Common.{rules}
use Rattle.window.specs.Memory.{place}
use Rattle.window.proofs.place_of.Goals as goal

pub returns : goal.returns
unfolding place
returns c = search rules
