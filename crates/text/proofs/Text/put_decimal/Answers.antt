-- A word has at most ten decimal digits.
use Rattle.text.specs.Text.{decimal_of}
use Rattle.text.proofs.Text.put_decimal.Goals as goal

pub returns : goal.returns
unfolding decimal_of
returns c = c.put_number.ensures
