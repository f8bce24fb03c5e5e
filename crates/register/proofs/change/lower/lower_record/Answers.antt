use Rattle.register.specs.Change.Bytes.{lower_record}
use Rattle.register.proofs.change.lower.lower_record.Goals as goal

pub returns : goal.returns
unfolding lower_record
returns c = rw (
  c.lower_exports.ensures,
  c.lower_word.ensures,
  c.load32-count.ensures,
  c.load32.ensures,
)
