-- The check proves this goal alone; the `let` names the part that a wrong body breaks.
use Rattle.std.proofs.Common.{◌-◌, ◌≡◌, arith}
use Rattle.std.proofs.lemmas.Grind.{common_steps}
use Rattle.history.specs.Image.{end_mark}
use Rattle.writer_spec.specs.Description.{file_of}
use Rattle.writer_spec.specs.Batches.{batch_begins}
use Rattle.writer.proofs.batches.batch_begins.Goals as goal

pub returns-else-e-eq0 : goal.returns-else-e-eq0
unfolding batch_begins
returns-else-e-eq0 c =
    let last : c.end_mark.result ≡ end_mark (file_of c.args.bytes.now) (c.args.e - 1) = c.end_mark.ensures in
    grind (arith, common_steps)
