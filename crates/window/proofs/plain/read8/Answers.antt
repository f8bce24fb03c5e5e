-- Among the bytes the element is `byte_at`; past them both are 0.
use Rattle.window.proofs.Laws.{byte_in, byte_out}
use Rattle.window.proofs.plain.read8.Goals as goal

pub returns-then-i-w : goal.returns-then-i-w
returns-then-i-w c = byte_in _ _ _ _ c.place_of-i.ensures

pub returns-else-i-w : goal.returns-else-i-w
returns-else-i-w c = byte_out _ _ _ _ c.place_of-i.ensures c.if-i-w.false
