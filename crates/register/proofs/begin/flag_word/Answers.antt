use Rattle.std.proofs.Common.{sym, ap}
use Rattle.register.specs.Encode.{flag}
use Rattle.register.proofs.begin.flag_word.Goals as goal

pub returns-then-set : goal.returns-then-set
unfolding flag
returns-then-set c = sym (ap flag c.if-set.true)

pub returns : goal.returns
unfolding flag
returns c = sym (ap flag c.if-set.false)
