use Rattle.register.specs.Append.Draft.{cleared, given_up}
use Rattle.register.proofs.append.draft.give_up.Goals as goal

pub returns : goal.returns
unfolding given_up cleared
returns c = rw (c.clear.ensures, c.clear-2.ensures)
