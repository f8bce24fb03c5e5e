-- Each byte is below 256, so no sum overflows, and the sum is the word of the four bytes.
use Rattle.window.specs.Word.{word_in}
use Rattle.window.proofs.load32.Goals as goal

pub returns : goal.returns
unfolding word_in
returns c =
    rw (
      c.wide.ensures.0,
      c.wide-2.ensures.0,
      c.wide-3.ensures.0,
      c.wide-4.ensures.0,
    )
