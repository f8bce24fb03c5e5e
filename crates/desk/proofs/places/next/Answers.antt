use Rattle.std.proofs.Common.{ap, ◌∙◌}
use Rattle.desk_spec.specs.Bytes.{at_most}
use Rattle.desk.proofs.places.Reading.{limited, next_is}
use Rattle.desk.proofs.places.next.Goals as goal

pub returns : goal.returns
returns c = c.min.ensures ∙ limited 8 _ ∙ ap (at_most 8) c.word.ensures ∙ next_is c.args.desk.now
