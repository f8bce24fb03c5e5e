use Rattle.linker.proofs.lists.Laws.{tail_left}
use Rattle.linker.proofs.lists.tail_leaves.Goals as goal

pub returns : goal.returns
returns c =
    let a = c.args in
    tail_left a.at a.crs a.base a.previous (a.w.now, a.trace.now) c.set_field.ensures c.new_tail.ensures
    c.new_tail-2.ensures
