use borrow.Author.Tests.{eq-eqb, ne_eqb, le-leb, lt-leb}
use Rattle.register.specs.Check.{name_ok}
use Rattle.register_test.proofs.records.Loops.{name_good}
use Rattle.register_test.proofs.records.name_ok.Goals as goal

pub returns-then-from-q : goal.returns-then-from-q
unfolding name_ok
returns-then-from-q c = simp (ne_eqb _ c.args.q c.if-from-q.true)

pub returns-then-count-gt512 : goal.returns-then-count-gt512
unfolding name_ok
returns-then-count-gt512 c = simp (eq-eqb _ _ c.if-from-q.false, lt-leb _ 512 c.if-count-gt512.true)

pub returns-then-names-end : goal.returns-then-names-end
unfolding name_ok
returns-then-names-end c = simp (eq-eqb _ _ c.if-from-q.false, le-leb _ 512 c.if-count-gt512.false, lt-leb _ _ c.if-names-end.true)

pub returns : goal.returns
returns c = name_good _ _ _ _ c.if-from-q.false c.if-count-gt512.false c.if-names-end.false
    c.no_zero.ensures
