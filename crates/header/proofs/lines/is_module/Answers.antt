-- By cases: too few bytes, the first magic, or whether it is the second.
use borrow.Author.Tests.{lt-leb, le-leb, eq-eqb, ne_eqb}
use Rattle.header.specs.Lines.{is_module}
use Rattle.header.proofs.lines.is_module.Goals as goal

pub returns-then-n : goal.returns-then-n
unfolding is_module
returns-then-n c = simp (lt-leb _ _ c.if-n.true)

pub returns-then-magic-eq-CRO0 : goal.returns-then-magic-eq-CRO0
unfolding is_module
returns-then-magic-eq-CRO0 c = simp (le-leb _ _ c.if-n.false, ← c.field-magic.ensures, eq-eqb _ _ c.if-magic-eq-CRO0.true)

pub returns : goal.returns
unfolding is_module
returns c = simp (le-leb _ _ c.if-n.false, ← c.field-magic.ensures, ne_eqb _ _ c.if-magic-eq-CRO0.false)
