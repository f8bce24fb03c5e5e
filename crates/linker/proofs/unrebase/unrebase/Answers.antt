-- The four steps in their order: `unrebased`.
use Rattle.linker.proofs.unrebase.Laws.{unrebased}
use Rattle.linker.proofs.unrebase.unrebase.Goals as goal

pub returns : goal.returns
returns c =
    let a = c.args in
    unrebased a.at a.base (a.w.now, a.trace.now) c.move_tables.ensures c.unmove_segments.ensures c.move_header.ensures
    c.set_field.ensures
