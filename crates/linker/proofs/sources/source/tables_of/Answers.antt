-- The four words in turn.
use Rattle.linker.proofs.sources.Laws.{tables_read}
use Rattle.linker.proofs.sources.source.tables_of.Goals as goal

pub returns : goal.returns
returns c =
    let a = c.args in
    tables_read a.at a.entry (a.w.now, a.trace.now) c.wrapping_add_u32.ensures.value c.read32-indexed_table.ensures
    c.wrapping_add_u32-2.ensures.value c.read32-indexed_count.ensures c.wrapping_add_u32-3.ensures.value c.read32-anonymous_table.ensures
    c.wrapping_add_u32-4.ensures.value c.read32-anonymous_count.ensures
