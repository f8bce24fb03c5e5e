use mathlib.Core.Path.{◌∙◌}
use native.Mathlib.Omega.{arith}
use Rattle.register_test.proofs.records.Loops.{end_bad, end_on, end_done, end_all, name-inside}
use Rattle.register_test.proofs.records.exports_end.Goals as goal

pub loop-k-init : goal.loop-k-init
loop-k-init c = end_all _ _ _

pub returns-then-not-name_ok : goal.returns-then-not-name_ok
returns-then-not-name_ok c = end_bad _ _ _ _ _ _ c.loop-k-test.true c.word.ensures
    c.word-count.ensures c.name_ok.ensures c.if-not-name_ok.true
    ∙ c.loop-k.invariant

pub overflow_add-place : goal.overflow_add-place
overflow_add-place c = omega (arith, name-inside _ _ _ _ c.name_ok.ensures c.if-not-name_ok.false)

pub loop-k-preserved : goal.loop-k-preserved
loop-k-preserved c = end_on _ _ _ _ _ _ c.loop-k-test.true c.word.ensures
    c.word-count.ensures c.name_ok.ensures c.if-not-name_ok.false
    ∙ c.loop-k.invariant

pub returns : goal.returns
returns c = end_done _ _ _ _ _ c.loop-k-test.false ∙ c.loop-k.invariant
