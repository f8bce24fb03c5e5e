-- In a row inside nothing is kept; elsewhere it is `read32_at_edge`.
use Rattle.std.proofs.Common.{refl, ◌∙◌, arith}
use Rattle.window.proofs.Laws.{row_word}
use Rattle.window.proofs.TraceLaws.{read32_is, row_in, saw_in}
use Rattle.window.proofs.read32.Goals as goal

pub returns : goal.returns
returns c =
    let a = c.args in
    read32_is a.at a.w.now a.trace.now a.x (c.load32.ensures ∙ row_word _ _ _ _ c.place_of-i.ensures (omega (arith, c.if-i-gt4294967292.false)))
    (saw_in _ _ _ 4 _ (row_in _ _ _ _ c.place_of-i.ensures (omega (arith, c.if-i-gt4294967292.false)) (omega (arith, c.if-w-i.false))) refl)
