use Rattle.register.proofs.read.Laws.{segment-entry}
use Rattle.register.proofs.read.segment_address.Goals as goal

pub returns : goal.returns
returns c = λ names.
    segment-entry _ _ _ c.bytes_from-rest.ensures c.word-count.ensures names _ _ c.bytes_at.ensures
    c.entry_of.ensures
