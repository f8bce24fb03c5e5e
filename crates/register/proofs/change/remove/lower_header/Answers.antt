use Rattle.register.specs.Change.Bytes.{lower_header}
use Rattle.register.proofs.change.remove.lower_header.Goals as goal

pub returns : goal.returns
unfolding lower_header
returns c = rw (
  c.lower_word-3.ensures,
  c.lower_word-2.ensures,
  c.lower_word.ensures,
)
