-- By whether the batch waits.
use Rattle.register.specs.Read.Read.{module_at}
use Rattle.linker.proofs.imports.Laws.{serve-waits, serve-passed}
use Rattle.linker.proofs.imports.others.serve_named.Goals as goal

pub returns-then-is_unresolved : goal.returns-then-is_unresolved
returns-then-is_unresolved c =
    let a = c.args in
    let m = module_at a.records.now a.names.now a.place in
    serve-waits a.at a.base a.entry m (a.w.now, a.trace.now)
    c.wrapping_add_u32.ensures.value c.read32-batch.ensures c.is_unresolved.ensures c.if-is_unresolved.true c.read32-address.ensures
    c.export_of-symbol.ensures
    c.resolve.ensures

pub returns-else-is_unresolved : goal.returns-else-is_unresolved
returns-else-is_unresolved c =
    let a = c.args in
    let m = module_at a.records.now a.names.now a.place in
    serve-passed a.at a.base a.entry m (a.w.now, a.trace.now)
    c.wrapping_add_u32.ensures.value c.read32-batch.ensures c.is_unresolved.ensures c.if-is_unresolved.false
