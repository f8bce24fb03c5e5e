use Rattle.register.specs.Append.Sets.{two-words}
use Rattle.linker.proofs.sorted.lay.Goals as goal

pub returns : goal.returns
returns c = two-words _ _ _ _ c.store32.ensures c.store32-2.ensures
