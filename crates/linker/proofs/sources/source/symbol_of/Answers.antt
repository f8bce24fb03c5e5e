-- One arm a table.
use Rattle.register.specs.Read.Read.{module_at}
use Rattle.linker.proofs.sources.Laws.{symbol_indexed, symbol_anonymous}
use Rattle.linker.proofs.sources.source.symbol_of.Goals as goal

pub returns-in-Indexed : goal.returns-in-Indexed
returns-in-Indexed c =
    let a = c.args in
    λ names. symbol_indexed (module_at a.records.now names a.place) a.number c.in-Indexed.is
    (c.export_indexed.ensures names)

pub returns-in-Anonymous : goal.returns-in-Anonymous
returns-in-Anonymous c =
    let a = c.args in
    λ names. symbol_anonymous (module_at a.records.now names a.place) a.number c.in-Anonymous.is
    (c.anonymous_address.ensures names)
