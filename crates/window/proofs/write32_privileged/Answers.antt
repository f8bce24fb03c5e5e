-- In a row inside nothing is kept; elsewhere it is `write32_privileged_at_edge`.
use Rattle.std.proofs.Common.{refl, ◌∙◌, arith}
use Rattle.window.proofs.Laws.{row_privileged}
use Rattle.window.proofs.TraceLaws.{write_p_is, row_in, saw_in}
use Rattle.window.proofs.write32_privileged.Goals as goal

pub returns : goal.returns
returns c =
    let a = c.args in
    write_p_is a.at a.w.now a.trace.now a.x a.v (c.store32.ensures ∙ row_privileged _ _ _ _ c.place_of-i.ensures (omega (arith, c.if-i-gt4294967292.false)) _ (omega (arith, c.if-w-i.false)))
    (saw_in _ _ _ 4 _ (row_in _ _ _ _ c.place_of-i.ensures (omega (arith, c.if-i-gt4294967292.false)) (omega (arith, c.if-w-i.false))) refl)
