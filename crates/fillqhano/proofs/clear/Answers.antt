-- Each of the three places is written.
use mathlib.Core.Path.{refl}
use Rattle.fillqhano.proofs.clear.Goals as goal

pub returns : goal.returns
returns c = (refl, refl, refl)
