-- The four bytes read are the word's, each at its address modulo 2 ^ 32.
use Rattle.std.proofs.Common.{◌∙◌}
use Rattle.window.proofs.Laws.{word_at-steps}
use Rattle.window.proofs.plain.read32_split.Goals as goal

pub returns : goal.returns
returns c =
    word_at-steps _ _ _
    (c.wide-b0.ensures.0 ∙ c.read8.ensures)
    c.wrapping_add_u32.ensures.value
    (c.wide-b1.ensures.0 ∙ c.read8-2.ensures)
    c.wrapping_add_u32-2.ensures.value
    (c.wide-b2.ensures.0 ∙ c.read8-3.ensures)
    c.wrapping_add_u32-3.ensures.value
    (c.wide-b3.ensures.0 ∙ c.read8-4.ensures)
