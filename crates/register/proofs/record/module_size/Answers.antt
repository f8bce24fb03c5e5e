use Rattle.register.specs.Decode.{module_size}
use Rattle.register.proofs.record.module_size.Goals as goal

pub returns : goal.returns
unfolding module_size
returns c = rw (c.word-segments.ensures, c.word-named.ensures, c.word-indexed.ensures)
