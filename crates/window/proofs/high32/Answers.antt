-- Each byte is below 256, so no sum overflows, and the sum is the number of the four bytes.
use Rattle.window.specs.Word.{high_word_in}
use Rattle.window.proofs.high32.Goals as goal

pub returns : goal.returns
unfolding high_word_in
returns c =
    rw (
      c.wide.ensures.0,
      c.wide-2.ensures.0,
      c.wide-3.ensures.0,
      c.wide-4.ensures.0,
    )
