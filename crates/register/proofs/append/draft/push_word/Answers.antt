use Rattle.std.proofs.Common.{length, arith}
use Rattle.register.specs.Append.Draft.{longer, room-inside}
use Rattle.register.proofs.append.Laws.{push_full, push_open}
use Rattle.register.proofs.append.draft.push_word.Goals as goal

pub returns-then-free-lt4 : goal.returns-then-free-lt4
returns-then-free-lt4 c = push_full _ _ _ c.room-free.ensures (omega arith)

pub returns-then-free-end : goal.returns-then-free-end
returns-then-free-end c = push_full _ _ _ c.room-free.ensures (omega arith)

pub store32-requires : goal.store32-requires
store32-requires c = let g =
    room-inside (length c.args.records.now) in omega (arith, c.room-free.ensures)

pub returns : goal.returns
unfolding longer
returns c = rw c.store32.ensures
    (push_open _ _ _ c.room-free.ensures (omega arith))
