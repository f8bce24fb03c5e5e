use Rattle.linker.specs.Sources.Laws.{unresolved_stays, resolved_by}
use Rattle.linker.proofs.sources.batch.resolve.Goals as goal

pub returns-in_default : goal.returns-in_default
returns-in_default c =
    let a = c.args in
    unresolved_stays a.at a.base a.batch (a.w.now, a.trace.now) c.in_default.is

pub returns : goal.returns
returns c =
    let a = c.args in
    resolved_by a.at a.base a.batch (a.w.now, a.trace.now) c.in-Some.is c.apply_relocation_batch.ensures
