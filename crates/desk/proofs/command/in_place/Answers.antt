use Rattle.desk.proofs.command.Laws.{in_place_0, in_place_source}
use Rattle.desk.proofs.command.in_place.Goals as goal

pub returns-then-address-eq0 : goal.returns-then-address-eq0
returns-then-address-eq0 c = let a = c.args in in_place_0 a.source a.address c.if-address-eq0.true

pub returns : goal.returns
returns c = let a = c.args in in_place_source a.source a.address c.if-address-eq0.false
