-- Among the bytes the store is `put_byte`; past them neither changes anything.
use Rattle.std.proofs.Common.{rules}
use Rattle.window.proofs.Laws.{put_in, put_out}
use Rattle.window.proofs.plain.write8.Goals as goal

pub returns-then-i-w : goal.returns-then-i-w
returns-then-i-w c = put_in _ _ _ _ _ c.place_of-i.ensures (search rules)

pub returns-else-i-w : goal.returns-else-i-w
returns-else-i-w c = put_out _ _ _ _ _ c.place_of-i.ensures c.if-i-w.false
