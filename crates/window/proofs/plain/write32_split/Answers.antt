-- The four byte writes are those of `put_word`, each at its address modulo 2 ^ 32.
use Rattle.window.proofs.Laws.{put_word-steps}
use Rattle.window.proofs.plain.write32_split.Goals as goal

pub returns : goal.returns
returns c =
    put_word-steps _ _ _ _
    c.wrapping_add_u32-x1.ensures.value
    c.wrapping_add_u32-x2.ensures.value
    c.wrapping_add_u32-x3.ensures.value
    c.write8.ensures
    c.write8-2.ensures
    c.write8-3.ensures
    c.write8-4.ensures
