-- Nothing stands after the length of an empty name.
use Rattle.text.specs.Text.{bytes}
use Rattle.session.proofs.register_lines.Laws.{name-empty, name-bytes}
use Rattle.session.proofs.register_lines.put_name.Goals as goal

pub returns-then-n-eq0 : goal.returns-then-n-eq0
returns-then-n-eq0 c = name-empty _ c.if-n-eq0.true c.put_decimal.ensures

pub returns : goal.returns
unfolding bytes
returns c = name-bytes _ c.if-n-eq0.false c.put_decimal.ensures c.put.ensures c.put_pairs.ensures
