-- The handler, then the named imports, then the module entries.
use Rattle.register.specs.Read.Read.{module_at}
use Rattle.linker.proofs.resets.Laws.{both_reset}
use Rattle.linker.proofs.resets.reset_imports.Goals as goal

pub returns : goal.returns
returns c =
    let a = c.args in
    let m = module_at a.records.now a.names.now a.place in
    both_reset a.at a.base (a.w.now, a.trace.now) m c.unresolved_symbol-handler.ensures
    c.reset_all_named.ensures c.reset_all_modules.ensures
