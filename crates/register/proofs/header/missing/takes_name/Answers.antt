use Rattle.std.proofs.Common.{eq-eqb, ne_eqb, le-leb}
use borrow.Author.Tests.{lt-leb}
use Rattle.register.specs.Change.Bytes.{takes_name}
use Rattle.register.proofs.header.missing.takes_name.Goals as goal

pub returns-then-records-lt32 : goal.returns-then-records-lt32
unfolding takes_name
returns-then-records-lt32 c = simp (lt-leb _ _ c.if-records-lt32.true)

pub returns-then-missing-ne32896 : goal.returns-then-missing-ne32896
unfolding takes_name
returns-then-missing-ne32896 c = simp (le-leb _ _ c.if-records-lt32.false, ne_eqb _ _ c.if-missing-ne32896.true)

pub returns : goal.returns
unfolding takes_name
returns c = simp (le-leb _ _ c.if-records-lt32.false, eq-eqb _ _ c.if-missing-ne32896.false)
