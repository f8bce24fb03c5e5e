-- By whether the batch waits.
use Rattle.register.specs.Read.Read.{module_at}
use Rattle.linker.specs.Sources.Source.{symbol_of}
use Rattle.linker.proofs.sources.Laws.{from-waits, from-passed}
use Rattle.linker.proofs.sources.source.import_from.Goals as goal

pub returns-then-is_unresolved : goal.returns-then-is_unresolved
returns-then-is_unresolved c =
    let a = c.args in
    λ names. from-waits a.at a.base a.entry (symbol_of a.kind (module_at a.records.now names a.place))
    (a.w.now, a.trace.now) c.read32-number.ensures c.wrapping_add_u32.ensures.value
    c.read32-batch.ensures c.is_unresolved.ensures c.if-is_unresolved.true (c.symbol_of.ensures names) c.resolve.ensures

pub returns-else-is_unresolved : goal.returns-else-is_unresolved
returns-else-is_unresolved c =
    let a = c.args in
    λ names. from-passed a.at a.base a.entry (symbol_of a.kind (module_at a.records.now names a.place))
    (a.w.now, a.trace.now) c.read32-number.ensures c.wrapping_add_u32.ensures.value
    c.read32-batch.ensures c.is_unresolved.ensures c.if-is_unresolved.false
