-- Its named imports, then its module entries.
use Rattle.register.specs.Read.Read.{module_at}
use Rattle.linker.proofs.imports.Laws.{both_served}
use Rattle.linker.proofs.imports.others.serve.Goals as goal

pub returns : goal.returns
returns c =
    let a = c.args in
    let m = module_at a.records.now a.names.now a.place in
    both_served a.at a.base m (a.w.now, a.trace.now) c.serve_all_named.ensures c.serve_all_modules.ensures
