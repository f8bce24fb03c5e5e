-- By whether a module has the name.
use Rattle.linker.proofs.imports.Laws.{module_missing, module_found}
use Rattle.linker.proofs.imports.own.import_module.Goals as goal

pub returns-in_default : goal.returns-in_default
returns-in_default c =
    let read = c.tables_of-tables.ensures in
    let a = c.args in
    module_missing a.records.now a.names.now a.at a.base a.entry (a.w.now, a.trace.now)
    c.read32-address.ensures c.module_by_name-found.ensures read c.in_default.is

pub returns : goal.returns
returns c =
    let a = c.args in
    module_found a.records.now a.names.now a.at a.base a.entry (a.w.now, a.trace.now)
    c.read32-address.ensures c.module_by_name-found.ensures c.tables_of-tables.ensures c.requires
    c.in-Some.is (c.link_from.ensures a.names.now)
