-- What the read gives, whatever its trace: `peeked`.
use Rattle.window.specs.Silent.{peeked}
use Rattle.layout.specs.Segments.{field, field_reads}
use Rattle.layout.proofs.peek.field.Goals as goal

pub returns : goal.returns
returns c =
    let a = c.args in
    peeked a.at (field a.base a.offset) _ (field_reads a.base a.offset) c.field.ensures
