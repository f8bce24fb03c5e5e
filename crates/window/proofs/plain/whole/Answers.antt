-- The second test is made only where the first holds, so that its sum does not overflow.
use Rattle.std.proofs.Common.{le-leb}
use borrow.Author.Tests.{lt-leb}
use Rattle.window.proofs.plain.whole.Goals as goal

pub returns-then-i-gt4294967292 : goal.returns-then-i-gt4294967292
returns-then-i-gt4294967292 c = simp (lt-leb _ _ c.if-i-gt4294967292.true)

pub returns : goal.returns
returns c = simp (le-leb _ _ c.if-i-gt4294967292.false)
