use Rattle.linker.proofs.lists.Laws.{tail_made}
use Rattle.linker.proofs.lists.become_tail.Goals as goal

pub returns : goal.returns
returns c =
    let a = c.args in
    tail_made a.at a.head a.base (a.w.now, a.trace.now) c.field-tail.ensures c.set_field.ensures c.set_field-2.ensures
    c.set_field-3.ensures
