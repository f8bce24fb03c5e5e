-- What the read gives, whatever its trace: `peeked`.
use Rattle.window.specs.Silent.{peeked}
use Rattle.layout.specs.Segments.{segment, segment_reads}
use Rattle.layout.proofs.peek.segment.Goals as goal

pub returns : goal.returns
returns c =
    let a = c.args in
    peeked a.at (segment a.base a.index) _ (segment_reads a.base a.index) c.segment.ensures
