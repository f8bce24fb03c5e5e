-- Each early return has found one of the four tests to fail; where the first three hold, the fourth is the result.
use Rattle.std.proofs.Common.{length, arith, le-ltb, lt-ltb, eq-eqb, ne_eqb}
use Rattle.window.specs.Memory.{good_window}
use Rattle.window.proofs.good_window.Goals as goal

pub returns-then-at-ne0 : goal.returns-then-at-ne0
unfolding good_window
returns-then-at-ne0 c = simp (ne_eqb _ _ c.if-at-ne0.true)

pub returns-then-n-ne0 : goal.returns-then-n-ne0
unfolding good_window
returns-then-n-ne0 c = simp (eq-eqb _ _ c.if-at-ne0.false, ne_eqb _ _ c.if-n-ne0.true)

pub returns-then-n-eq0 : goal.returns-then-n-eq0
unfolding good_window
returns-then-n-eq0 c =
    simp (eq-eqb _ _ c.if-at-ne0.false, eq-eqb _ _ c.if-n-ne0.false, le-ltb 0 (length c.args.w.now) (omega arith))

pub returns : goal.returns
unfolding good_window
returns c =
    simp (eq-eqb _ _ c.if-at-ne0.false, eq-eqb _ _ c.if-n-ne0.false, lt-ltb 0 (length c.args.w.now) (omega arith))
