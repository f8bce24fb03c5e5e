use Rattle.register.specs.Read.Read.{record_at}
use Rattle.register.proofs.read.record_at.Goals as goal

pub returns : goal.returns
unfolding record_at
returns c =
    rw (
      ← c.bytes_from-rest.ensures,
      ← c.word.ensures,
      ← c.word-2.ensures,
      ← c.word-3.ensures,
      ← c.word-4.ensures,
      ← c.word-5.ensures,
      ← c.word-6.ensures,
      ← c.word-7.ensures,
      ← c.word-8.ensures,
    )
