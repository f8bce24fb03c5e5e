use borrow.Author.Tests.{eq-eqb, ne_eqb, le-leb, lt-leb}
use Rattle.register.specs.Check.{sizes_ok}
use Rattle.register_test.proofs.sizes_ok.Goals as goal

pub returns-then-used-lt32 : goal.returns-then-used-lt32
unfolding sizes_ok
returns-then-used-lt32 c = simp (lt-leb _ _ c.if-used-lt32.true)

pub returns-then-records-used : goal.returns-then-records-used
unfolding sizes_ok
returns-then-records-used c = simp (le-leb _ _ c.if-used-lt32.false, lt-leb _ _ c.if-records-used.true)

pub returns-then-used-ne0 : goal.returns-then-used-ne0
unfolding sizes_ok
returns-then-used-ne0 c = simp (le-leb _ _ c.if-used-lt32.false, le-leb _ _ c.if-records-used.false, ne_eqb _ _ c.if-used-ne0.true)

pub returns : goal.returns
unfolding sizes_ok
returns c = simp (le-leb _ _ c.if-used-lt32.false, le-leb _ _ c.if-records-used.false, eq-eqb _ _ c.if-used-ne0.false)
