use Rattle.linker.proofs.record.Laws.{keep_or_give_up_full, keep_or_give_up_open}
use Rattle.linker.proofs.record.keep_or_give_up.Goals as goal

pub returns-in-None : goal.returns-in-None
returns-in-None c = keep_or_give_up_full _ _ _ _ c.in-None.is c.give_up.ensures

pub returns-in-Some : goal.returns-in-Some
returns-in-Some c = keep_or_give_up_open _ _ _ _ _ c.in-Some.is
