use Rattle.std.proofs.Common.{◌∙◌}
use Rattle.desk.proofs.places.Reading.{first_word}
use Rattle.desk.proofs.places.Turns.{turn_inside}
use Rattle.desk.proofs.places.Writing.{copy_desk}
use Rattle.desk.proofs.places.caller_at.Goals as goal

pub unwrap-requires : goal.unwrap-requires
unwrap-requires c = c.first_chunk.ensures.variant.1 (turn_inside _ _ c.requires).0

pub returns : goal.returns
returns c =
    let first = rw c.unwrap.ensures at c.first_chunk.ensures.cases in
    rw (copy_desk _ first.same) at c.place_word.ensures ∙ first_word _
