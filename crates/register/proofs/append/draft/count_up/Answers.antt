use Rattle.std.proofs.Common.{◌∙◌}
use Rattle.register.specs.Append.Draft.{count_up}
use Rattle.register.proofs.append.draft.count_up.Goals as goal

pub returns : goal.returns
unfolding count_up
returns c = c.store32.ensures
    ∙ rw (c.wrapping_add_u32.ensures.value, c.load32-count.ensures)
