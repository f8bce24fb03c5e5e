use Rattle.std.proofs.Common.{ap, ◌∙◌, arith}
use Rattle.desk_spec.specs.Bytes.{at_most}
use Rattle.desk.proofs.places.Reading.{limited, taken_are}
use Rattle.desk.proofs.places.taken.Goals as goal

pub returns : goal.returns
returns c =
    let word = c.word in (
      c.min.ensures ∙ limited 8 _ ∙ ap (at_most 8) word.ensures ∙ taken_are c.args.desk.now,
      omega (arith, c.min.ensures),
    )
