use Rattle.writer_spec.specs.Description.{file_of}
use Rattle.writer.proofs.strings.Laws.{string_misplaced, string_placed, string_too_long}
use Rattle.writer.proofs.strings.string_after.Goals as goal

pub returns-then-p-pos : goal.returns-then-p-pos
returns-then-p-pos c = string_misplaced (file_of c.args.bytes.now) _ _ c.if-p-pos.true

pub returns-then-n-lt-NAME_ROOM : goal.returns-then-n-lt-NAME_ROOM
returns-then-n-lt-NAME_ROOM c = string_placed (file_of c.args.bytes.now) _ _ c.if-p-pos.false c.name_length-n.ensures c.if-n-lt-NAME_ROOM.true

pub returns : goal.returns
returns c = string_too_long (file_of c.args.bytes.now) _ _ c.name_length-n.ensures c.if-n-lt-NAME_ROOM.false
