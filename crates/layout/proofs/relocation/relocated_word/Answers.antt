-- Each arm has the definition at its constructor; the difference that wraps is `◌⊖◌`.
use Rattle.std.proofs.Common.{ap, ◌∙◌, rules, Some}
use Rattle.layout.proofs.Laws.{difference}
use Rattle.layout.proofs.relocation.relocated_word.Goals as goal

pub returns-in-AbsoluteAddress : goal.returns-in-AbsoluteAddress
returns-in-AbsoluteAddress c = rw (c.in-AbsoluteAddress.is, c.wrapping_add_u32.ensures.value)

pub returns-in-RelativeAddress : goal.returns-in-RelativeAddress
returns-in-RelativeAddress c =
    rw c.in-RelativeAddress.is
    (ap Some (difference _ _ _ (search rules) (c.wrapping_sub_u32.ensures.value ∙ c.wrapping_add_u32-in-RelativeAddress.ensures.value)))
