use Rattle.std.proofs.Common.{length, arith}
use Rattle.register.specs.Append.Draft.{used_bytes, used_names, draft_at, room-inside, room_word}
use Rattle.register.proofs.begin.Laws.{begin_many, begin_no_words, begin_no_names, begin_open}
use Rattle.register.proofs.begin.begin_record.Goals as goal

pub returns-then-word-ge64 : goal.returns-then-word-ge64
returns-then-word-ge64 c = begin_many _ _ _ _ _ _ c.word.ensures c.if-word-ge64.true

pub returns-then-room-start : goal.returns-then-room-start
unfolding used_bytes used_names
returns-then-room-start c = begin_no_words _ _ _ _ _ _ c.word.ensures
    c.if-word-ge64.false c.used_bytes-start.ensures
    c.word-last.ensures c.room.ensures c.if-room-start.true

pub returns-then-room-from : goal.returns-then-room-from
unfolding used_bytes used_names
returns-then-room-from c = begin_no_names _ _ _ _ _ _ c.word.ensures
    c.if-word-ge64.false
    c.used_bytes-start.ensures c.word-last.ensures
    c.room.ensures c.room-2.ensures c.if-room-start.false c.if-room-from.true

pub overflow_cast-count : goal.overflow_cast-count
overflow_cast-count c = omega (arith, c.room-2.ensures, room_word (length c.args.names.now))

pub write_first-requires : goal.write_first-requires
write_first-requires c = omega (arith, room-inside (length c.args.records.now), c.room.ensures)

pub copy_into-requires : goal.copy_into-requires
copy_into-requires c = omega (arith, room-inside (length c.args.names.now), c.room-2.ensures)

pub returns : goal.returns
unfolding used_bytes used_names draft_at
returns c =
    begin_open _ _ _ _ _ _ c.word.ensures c.if-word-ge64.false c.used_bytes-start.ensures
    c.word-last.ensures c.room.ensures c.room-2.ensures c.if-room-start.false
    c.if-room-from.false c.flag_word.ensures c.write_first.ensures
    c.copy_into.ensures
