-- By the level.
use Rattle.linker.proofs.fix.Laws.{fixed_1, fixed_2, fixed_3, fixed_no}
use Rattle.linker.proofs.fix.fix.Goals as goal

pub returns-then-fix_level-eq1 : goal.returns-then-fix_level-eq1
returns-then-fix_level-eq1 c =
    let a = c.args in
    fixed_1 a.at a.base a.size a.fix_level (a.w.now, a.trace.now) c.if-fix_level-eq1.true c.fix_from.ensures

pub returns-then-fix_level-eq2 : goal.returns-then-fix_level-eq2
returns-then-fix_level-eq2 c =
    let a = c.args in
    fixed_2 a.at a.base a.size a.fix_level (a.w.now, a.trace.now) c.if-fix_level-eq1.false c.if-fix_level-eq2.true c.fix_from-then-fix_level-eq2.ensures

pub returns-then-fix_level-eq3 : goal.returns-then-fix_level-eq3
returns-then-fix_level-eq3 c =
    let a = c.args in
    fixed_3 a.at a.base a.size a.fix_level (a.w.now, a.trace.now) c.if-fix_level-eq1.false c.if-fix_level-eq2.false c.if-fix_level-eq3.true c.fix_from-then-fix_level-eq3.ensures

pub returns : goal.returns
returns c =
    let a = c.args in
    fixed_no a.at a.base a.size a.fix_level (a.w.now, a.trace.now) c.if-fix_level-eq1.false c.if-fix_level-eq2.false c.if-fix_level-eq3.false
