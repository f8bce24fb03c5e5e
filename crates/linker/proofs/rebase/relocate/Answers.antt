-- The tables, then the relocations: `relocated`.
use Rattle.linker.proofs.rebase.Laws.{relocated}
use Rattle.linker.proofs.rebase.relocate.Goals as goal

pub returns : goal.returns
returns c =
    let a = c.args in
    relocated a.at a.base a.old (a.w.now, a.trace.now) c.move_tables.ensures c.apply_internal_relocations.ensures
