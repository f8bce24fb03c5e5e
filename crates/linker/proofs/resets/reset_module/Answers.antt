-- By whether the entry names the module.
use Rattle.register.specs.Read.Read.{module_at}
use Rattle.linker.specs.Sources.Walks.{own_name_lem}
use Rattle.linker.proofs.resets.Laws.{module_kept, module_reset}
use Rattle.linker.proofs.resets.reset_module.Goals as goal

pub returns-then-is_name : goal.returns-then-is_name
returns-then-is_name c =
    let a = c.args in
    let m = module_at a.records.now a.names.now a.place in
    module_reset a.at a.base a.handler a.entry (a.w.now, a.trace.now) c.read32-address.ensures c.is_name.ensures.1 m
    (own_name_lem a.records.now a.names.now a.place c.record_at.ensures c.record_name-name.ensures)
    c.is_name.ensures.0 c.if-is_name.true c.tables_of-tables.ensures c.reset_table.ensures c.reset_table-then-is_name.ensures

pub returns-else-is_name : goal.returns-else-is_name
returns-else-is_name c =
    let a = c.args in
    let m = module_at a.records.now a.names.now a.place in
    module_kept a.at a.base a.handler a.entry (a.w.now, a.trace.now) c.read32-address.ensures c.is_name.ensures.1 m
    (own_name_lem a.records.now a.names.now a.place c.record_at.ensures c.record_name-name.ensures)
    c.is_name.ensures.0 c.if-is_name.false
