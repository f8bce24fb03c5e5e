-- One word, then the other.
use Rattle.linker.proofs.rebase.Laws.{is_magic-first, is_magic_second}
use Rattle.linker.proofs.rebase.is_magic.Goals as goal

pub returns-then-word-eq810504771 : goal.returns-then-word-eq810504771
returns-then-word-eq810504771 c = is_magic-first c.args.word c.if-word-eq810504771.true

pub returns : goal.returns
returns c = is_magic_second c.args.word c.if-word-eq810504771.false
