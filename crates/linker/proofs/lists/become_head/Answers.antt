use Rattle.linker.proofs.lists.Laws.{head_made}
use Rattle.linker.proofs.lists.become_head.Goals as goal

pub returns : goal.returns
returns c =
    let a = c.args in
    head_made a.at (a.w.now, a.trace.now) a.crs a.x a.base c.set_field.ensures c.set_field-2.ensures
