-- The check proves this goal alone; the `let` names the part that a wrong body breaks.
use Rattle.std.proofs.Common.{length, ◌≡◌, eqb, arith}
use Rattle.std.proofs.lemmas.Grind.{common_steps}
use Rattle.writer_spec.specs.Description.{packed, packed_to}
use Rattle.writer.proofs.packed.packed.Goals as goal

pub returns-in-Some : goal.returns-in-Some
unfolding packed packed_to
returns-in-Some c =
    let last : eqb c.in-Some.end (length c.args.bytes.now) ≡ packed c.args.bytes.now = grind (arith, common_steps)
    in last
