-- One table after the other.
use Rattle.register.specs.Read.Read.{module_at}
use Rattle.linker.proofs.sources.Laws.{tables_made}
use Rattle.linker.proofs.sources.source.link_from.Goals as goal

pub returns : goal.returns
returns c =
    let a = c.args in
    λ names. tables_made a.at a.base (module_at a.records.now names a.place) a.tables (a.w.now, a.trace.now)
    {u = (c.import_table.new.w, c.import_table.new.trace)} (c.import_table.ensures names) (c.import_table-2.ensures names)
