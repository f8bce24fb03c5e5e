-- The constant is the text of the definition.
use mathlib.Core.Path.{refl}
use Rattle.text.specs.Text.{digit_of, bytes}
use Rattle.text.proofs.digit.Goals as goal

pub returns : goal.returns
unfolding digit_of bytes
returns c = refl
