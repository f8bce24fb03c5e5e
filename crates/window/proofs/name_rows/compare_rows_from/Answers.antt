use Rattle.std.proofs.Common.{◌∙◌, arith}
use Rattle.window.proofs.name_rows.Laws.{ended_less, ended-more, ended_on, ended-zero, ended_end}
use Rattle.window.proofs.name_rows.compare_rows_from.Goals as goal

pub returns-then-a-i : goal.returns-then-a-i
returns-then-a-i c =
    let a = c.args in
    ended_less a.a.now a.b.now c.loop-i.i (omega arith) (omega arith) c.if-a-i.true ∙ c.loop-i.invariant

pub returns-then-b-i : goal.returns-then-b-i
returns-then-b-i c =
    let a = c.args in
    ended-more a.a.now a.b.now c.loop-i.i (omega arith) (omega arith) c.if-b-i.true ∙ c.loop-i.invariant

pub returns-then-a-i-eq0 : goal.returns-then-a-i-eq0
returns-then-a-i-eq0 c =
    let a = c.args in
    ended-zero a.a.now a.b.now c.loop-i.i (omega arith) (omega arith) (omega arith) c.if-a-i-eq0.true ∙ c.loop-i.invariant

pub loop-i-preserved : goal.loop-i-preserved
loop-i-preserved c =
    let a = c.args in
    ended_on a.a.now a.b.now c.loop-i.i (omega arith) (omega arith) (omega arith) c.if-a-i-eq0.false ∙ c.loop-i.invariant

pub returns : goal.returns
returns c =
    let a = c.args in
    ended_end a.a.now a.b.now c.loop-i.i (omega arith) (omega arith) ∙ c.loop-i.invariant
