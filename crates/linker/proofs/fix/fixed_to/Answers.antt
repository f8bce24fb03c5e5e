use Rattle.linker.proofs.fix.Laws.{fixed_in_steps}
use Rattle.linker.proofs.fix.fixed_to.Goals as goal

pub returns : goal.returns
returns c =
    let a = c.args in
    fixed_in_steps a.end a.base a.size c.saturating_sub.ensures c.align_up.ensures c.min.ensures
