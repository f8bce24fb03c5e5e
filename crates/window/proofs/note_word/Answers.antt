-- By the test: `saw_out`, `saw_in`.
use Rattle.window.proofs.TraceLaws.{saw_in, saw_out}
use Rattle.window.proofs.note_word.Goals as goal

pub returns-then-word_outside : goal.returns-then-word_outside
returns-then-word_outside c = saw_out c.args.at c.args.n c.args.x 4 c.args.trace.now c.word_outside.ensures c.if-word_outside.true c.note.ensures

pub returns-else-word_outside : goal.returns-else-word_outside
returns-else-word_outside c = saw_in c.args.at c.args.n c.args.x 4 c.args.trace.now c.word_outside.ensures c.if-word_outside.false
