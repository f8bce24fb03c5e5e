use Rattle.std.proofs.Common.{rules}
use Rattle.register.proofs.change.Laws.{closed_in_steps}
use Rattle.register.proofs.change.gap.close_gap.Goals as goal

pub returns : goal.returns
returns c =
    let a = c.args in
    closed_in_steps a.buffer.now a.from a.gap c.requires c.copy_within.ensures.len c.copy_within.ensures.after (c.fill.ensures.after (λ y h. search rules))
