use Rattle.std.proofs.Common.{◌∙◌, arith}
use Rattle.desk.proofs.places.Changes.{sent_next, served-next, served_most}
use Rattle.desk.proofs.places.next_after.Goals as goal

pub overflow_cast-result : goal.overflow_cast-result
overflow_cast-result c = let h = served_most _ c.in-Served.is c.requires in omega arith

pub overflow_add-result : goal.overflow_add-result
overflow_add-result c = let h = served_most _ c.in-Served.is c.requires in omega arith

pub returns-in-Sent : goal.returns-in-Sent
returns-in-Sent c = c.next.ensures ∙ sent_next _ c.in-Sent.is

pub returns-in-Served : goal.returns-in-Served
returns-in-Served c = served-next _ c.in-Served.is
