use Rattle.session.specs.Head.{head_word}
use Rattle.session.proofs.head.step_count.Goals as goal

pub returns : goal.returns
unfolding head_word
returns c = c.word.ensures
