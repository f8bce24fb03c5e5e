use Rattle.std.proofs.Common.{◌≡◌, ◌+◌, ◌*◌, sym, ◌∙◌, arith}
use Rattle.window.proofs.name.Laws.{order_word}
use Rattle.window.proofs.name.alike.Goals as goal

pub loop-k-preserved : goal.loop-k-preserved
loop-k-preserved c =
    let a = c.args in
    let i = 4 * c.loop-k.k in
    let next : 4 * (c.loop-k.k + 1) ≡ i + 4 = omega arith in
    rw next
    (order_word a.a.now a.b.now i (λ k. omega (arith, c.type_inv.a k)) (λ k. omega (arith, c.type_inv.b k))
    (omega arith) (omega arith) (sym c.load32.ensures ∙ c.if-load32.false ∙ c.load32-in-loop-k.ensures)
    ∙ c.loop-k.invariant)
