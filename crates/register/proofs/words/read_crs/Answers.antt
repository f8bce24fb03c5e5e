-- src/words.rt:57:8
use Rattle.std.proofs.Common.{eq-eqb, ne_eqb}
use Rattle.register.specs.Decode.{read_crs}
use Rattle.register.proofs.words.read_crs.Goals as goal

pub returns-then-word-eq1 : goal.returns-then-word-eq1
unfolding read_crs
returns-then-word-eq1 c = rw (← c.word.ensures, eq-eqb c.word.result 1 c.if-word-eq1.true, c.word-then-word-eq1.ensures)

pub returns : goal.returns
unfolding read_crs
returns c = rw (← c.word.ensures, ne_eqb c.word.result 1 c.if-word-eq1.false)
