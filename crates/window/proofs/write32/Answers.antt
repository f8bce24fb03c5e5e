-- In a row inside nothing is kept; elsewhere it is `write32_at_edge`.
use Rattle.std.proofs.Common.{refl, ◌∙◌, arith}
use Rattle.window.proofs.Laws.{row_put}
use Rattle.window.proofs.TraceLaws.{write32_is, row_in, saw_in}
use Rattle.window.proofs.write32.Goals as goal

pub returns : goal.returns
returns c =
    let a = c.args in
    write32_is a.at a.w.now a.trace.now a.x a.v (c.store32.ensures ∙ row_put _ _ _ _ c.place_of-i.ensures (omega (arith, c.if-i-gt4294967292.false)) _)
    (saw_in _ _ _ 4 _ (row_in _ _ _ _ c.place_of-i.ensures (omega (arith, c.if-i-gt4294967292.false)) (omega (arith, c.if-w-i.false))) refl)
