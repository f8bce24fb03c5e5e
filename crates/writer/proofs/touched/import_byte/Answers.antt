-- The check proves this goal alone; the `let` names the part that a wrong body breaks.
use Rattle.std.proofs.Common.{◌-◌, ◌%◌, ◌≤◌, arith}
use Rattle.std.proofs.lemmas.Grind.{common_steps}
use Rattle.writer_spec.specs.Words.{import_byte}
use Rattle.writer.proofs.touched.import_byte.Goals as goal

pub returns-then-o-start-ge4 : goal.returns-then-o-start-ge4
unfolding import_byte
returns-then-o-start-ge4 c =
    let last : 4 ≤ (c.args.o - c.start-start.result) % 8 = c.if-o-start-ge4.true in
    grind (arith, common_steps)
