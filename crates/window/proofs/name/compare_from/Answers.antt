use Rattle.std.proofs.Common.{◌≡◌, length, nat_cmp, ◌∙◌, arith}
use Rattle.std.proofs.lemmas.Grind.{common_steps}
use Rattle.window.proofs.name.Laws.{order_differs, order_on, order_lengths}
use Rattle.window.proofs.name.compare_from.Goals as goal

pub returns-then-a-i : goal.returns-then-a-i
returns-then-a-i c =
    let a = c.args in
    c.cmp.ensures ∙ order_differs a.a.now a.b.now c.loop-i.i (omega arith) (omega arith) c.if-a-i.true ∙ c.loop-i.invariant

pub loop-i-preserved : goal.loop-i-preserved
loop-i-preserved c =
    let a = c.args in
    order_on a.a.now a.b.now c.loop-i.i (omega arith) (omega arith) (omega arith) (omega arith) ∙ c.loop-i.invariant

-- The order of the lengths is found by `grind`, so that a wrong one is refused as such.
pub returns : goal.returns
returns c =
    let a = c.args in
    let lengths : c.cmp-2.result ≡ nat_cmp (length a.a.now) (length a.b.now) = grind (arith, common_steps) in
    lengths ∙ order_lengths a.a.now a.b.now c.loop-i.i (omega arith) (omega arith) (λ l. omega arith) ∙ c.loop-i.invariant
