-- The check proves this goal alone; the `let` names the part that a wrong body breaks.
use Rattle.std.proofs.Common.{◌+◌, ◌≡◌, arith}
use Rattle.std.proofs.lemmas.Grind.{common_steps}
use Rattle.writer_spec.specs.Description.{file_of}
use Rattle.writer_spec.specs.Words.{touched_byte}
use Rattle.writer.proofs.touched.word_touched.Goals as goal

pub returns-else-touched_byte-3 : goal.returns-else-touched_byte-3
returns-else-touched_byte-3 c =
    let last : c.touched_byte-else-touched_byte-3.result ≡ touched_byte (file_of c.args.bytes.now) (c.args.c + 3) =
    c.touched_byte-else-touched_byte-3.ensures
    in grind (arith, common_steps)
