use Rattle.writer_spec.specs.Description.{described_size}
use Rattle.writer.proofs.image.Whole.{description_read}
use Rattle.writer.proofs.image.Outcomes.{no_header, cut_off, no_room, read}
use Rattle.writer.proofs.image.read_image.Goals as goal

pub returns-then-image : goal.returns-then-image
returns-then-image c = no_header _ _ c.if-image.true

pub returns-then-image-end : goal.returns-then-image-end
unfolding described_size
returns-then-image-end c = cut_off _ _ c.if-image.false c.word-size.ensures c.if-image-end.true

pub returns-then-description-end : goal.returns-then-description-end
unfolding described_size
returns-then-description-end c = no_room _ _ c.if-image.false c.word-size.ensures c.if-image-end.false c.if-description-end.true

pub returns : goal.returns
unfolding described_size
returns c =
    let whole = c.if-image-end.false in
    let room = c.if-description-end.false in
    read _ _ c.if-image.false c.word-size.ensures whole room
    (description_read _ _ _ _ _ _ c.word-size.ensures whole room c.copy.ensures c.clear_word.ensures c.clear_word-2.ensures)
