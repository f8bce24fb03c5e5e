use Rattle.register.specs.Append.Sets.{eight_words}
use Rattle.register.proofs.begin.write_first.Goals as goal

pub returns : goal.returns
returns c =
    eight_words _ _ _ _ _ _ _ _ _ _ c.store32.ensures c.store32-2.ensures
    c.store32-3.ensures c.store32-4.ensures c.store32-5.ensures
    c.store32-6.ensures c.store32-7.ensures c.store32-8.ensures
