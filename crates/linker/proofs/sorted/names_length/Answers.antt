use Rattle.std.proofs.Common.{arith}
use Rattle.linker.proofs.sorted.Laws.{name-within, sum-turn, sum_ends}
use Rattle.linker.proofs.sorted.names_length.Goals as goal

pub overflow_add-sum : goal.overflow_add-sum
overflow_add-sum c =
    let a = c.args in
    omega (arith, name-within a.at a.w.now _ _ _ c.peek_name-sum.ensures)

pub loop-k-preserved : goal.loop-k-preserved
loop-k-preserved c =
    let a = c.args in
    let l = c.loop-k in
    (omega (arith, name-within a.at a.w.now _ _ _ c.peek_name-sum.ensures), sum-turn a.at a.w.now a.waiting.now l.k l.sum _ _ _ (omega arith) c.word-place.ensures c.peek_name-sum.ensures l.invariant.1)

pub returns : goal.returns
returns c =
    let a = c.args in
    let l = c.loop-k in
    sum_ends a.at a.w.now a.waiting.now l.k l.sum (omega arith) l.invariant.1
