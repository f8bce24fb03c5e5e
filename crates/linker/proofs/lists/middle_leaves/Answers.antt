use Rattle.linker.proofs.lists.Laws.{middle_left}
use Rattle.linker.proofs.lists.middle_leaves.Goals as goal

pub returns : goal.returns
returns c =
    let a = c.args in
    middle_left a.at a.next a.previous (a.w.now, a.trace.now) c.set_field.ensures c.set_field-2.ensures
