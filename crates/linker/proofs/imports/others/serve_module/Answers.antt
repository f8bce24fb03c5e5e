-- By whether the entry names the module.
use Rattle.register.specs.Read.Read.{module_at}
use Rattle.linker.proofs.imports.Laws.{entry-served, entry-passed}
use Rattle.linker.specs.Sources.Walks.{own_name_lem}
use Rattle.linker.proofs.imports.others.serve_module.Goals as goal

pub returns-then-is_name : goal.returns-then-is_name
returns-then-is_name c =
    let a = c.args in
    let m = module_at a.records.now a.names.now a.place in
    entry-served a.at a.base a.entry m (a.w.now, a.trace.now) c.read32-address.ensures
    (own_name_lem a.records.now a.names.now a.place c.record_at.ensures c.record_name-name.ensures)
    c.is_name.ensures c.if-is_name.true c.tables_of-tables.ensures (c.link_from.ensures a.names.now)

pub returns-else-is_name : goal.returns-else-is_name
returns-else-is_name c =
    let a = c.args in
    let m = module_at a.records.now a.names.now a.place in
    entry-passed a.at a.base a.entry m (a.w.now, a.trace.now) c.read32-address.ensures
    (own_name_lem a.records.now a.names.now a.place c.record_at.ensures c.record_name-name.ensures)
    c.is_name.ensures c.if-is_name.false
