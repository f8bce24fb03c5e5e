use Rattle.std.proofs.Common.{◌∙◌}
use Rattle.register.specs.Decode.{export_at}
use Rattle.register.proofs.exports.export_name.Goals as goal

pub returns : goal.returns
unfolding export_at
returns c = c.name_part.ensures ∙ rw (c.word.ensures, c.word-2.ensures)
