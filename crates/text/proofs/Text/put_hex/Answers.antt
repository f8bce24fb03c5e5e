-- A word has at most eight hex digits.
use mathlib.Core.Path.{ap, ◌∙◌}
use native.Mathlib.Omega.{arith}
use Rattle.text.specs.Text.{hex_of, put}
use Rattle.text.specs.Puts.{written}
use Rattle.text.specs.Laws.{digits_enough}
use Rattle.text.proofs.Text.put_hex.Goals as goal

pub returns : goal.returns
unfolding hex_of
returns c =
    let a = c.args in
    let h = digits_enough 16 7 2 a.v (omega arith) (omega arith) in
    record { text = c.put_number.ensures.text ∙ ap (λ s. put s (written a.self.now)) h; same = c.put_number.ensures.same }
