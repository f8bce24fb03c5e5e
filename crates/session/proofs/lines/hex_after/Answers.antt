-- Two pieces.
use Rattle.text.specs.Puts.{puts_then}
use Rattle.session.proofs.lines.hex_after.Goals as goal

pub returns : goal.returns
returns c = puts_then c.put.ensures c.put_hex.ensures
