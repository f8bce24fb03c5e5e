-- What the read gives, whatever its trace: `peeked`.
use Rattle.window.specs.Silent.{peeked}
use Rattle.layout.specs.Segments.{tag_to_address, tag_to_address_reads}
use Rattle.layout.proofs.peek.tag_to_address.Goals as goal

pub returns : goal.returns
returns c =
    let a = c.args in
    peeked a.at (tag_to_address a.base a.tag.0) _ (tag_to_address_reads a.base a.tag.0) c.tag_to_address.ensures
