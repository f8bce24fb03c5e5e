use native.Mathlib.Omega.{arith}
use Rattle.writer.proofs.bytes.Laws.{word-one, word_two, word-three}
use Rattle.writer.proofs.bytes.last_word.Goals as goal

pub returns-then-left-eq1 : goal.returns-then-left-eq1
returns-then-left-eq1 c = word-one c.args.bytes.now c.args.o (omega arith)

pub returns-then-left-eq2 : goal.returns-then-left-eq2
returns-then-left-eq2 c = word_two c.args.bytes.now c.args.o (omega arith)

pub returns : goal.returns
returns c = word-three c.args.bytes.now c.args.o (omega arith)
