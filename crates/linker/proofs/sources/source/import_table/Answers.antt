use Rattle.std.proofs.Common.{rules}
use Rattle.register.specs.Read.Read.{module_at}
use Rattle.linker_spec.specs.Imports.{import_from}
use Rattle.linker.specs.Sources.Source.{symbol_of, import_table}
use Rattle.linker.proofs.sources.Laws.{from-idle}
use Rattle.linker.proofs.sources.source.import_table.Goals as goal

pub returns : goal.returns
unfolding import_table
returns c =
    let a = c.args in
    λ names. let symbol = symbol_of a.kind (module_at a.records.now names a.place) in
    c.for_each_entry.ensures (import_from symbol a.base) (from-idle a.at a.base symbol) (λ w trace entry w' trace' small call. search rules)
