use Rattle.session.specs.Head.{head_word}
use Rattle.session.proofs.head.window_bytes.Goals as goal

pub returns : goal.returns
unfolding head_word
returns c = rw (← c.word.ensures, ← c.word-2.ensures) c.name_part.ensures
