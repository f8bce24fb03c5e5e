use Rattle.register.proofs.append.Laws.{room_small, room-large}
use Rattle.register.proofs.append.bytes.room.Goals as goal

pub returns-then-n-lt4294967295 : goal.returns-then-n-lt4294967295
returns-then-n-lt4294967295 c = room_small _ c.if-n-lt4294967295.true

pub returns : goal.returns
returns c = room-large _ c.if-n-lt4294967295.false
