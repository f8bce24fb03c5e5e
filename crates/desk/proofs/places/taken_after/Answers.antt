use Rattle.desk.proofs.places.Changes.{changed-count}
use Rattle.desk.proofs.places.taken_after.Goals as goal

pub returns-in-Sent : goal.returns-in-Sent
returns-in-Sent c = changed-count _ c.in-Sent.is c.taken_with.ensures

pub returns-in-Served : goal.returns-in-Served
returns-in-Served c = changed-count _ c.in-Served.is c.taken_with-in-Served.ensures
