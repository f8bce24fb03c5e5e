use Rattle.register.proofs.read.Laws.{indexed_entry_lem}
use Rattle.register.proofs.read.export_indexed.Goals as goal

pub returns : goal.returns
returns c =
    λ names.
    indexed_entry_lem _ _ _ c.bytes_from-rest.ensures c.word-segments.ensures c.word-named.ensures names _ _
    c.word-count.ensures
    c.bytes_at.ensures c.entry_of.ensures
