use Rattle.std.proofs.Common.{◌≡◌, arith}
use Rattle.std.proofs.lemmas.Grind.{common_steps}
use Rattle.window.specs.Mirror.{word}
use Rattle.layout.specs.Header.{on_unresolved_segment_tag}
use Rattle.writer_spec.specs.Description.{file_of}
use Rattle.writer_spec.specs.Accepts.{laid_out}
use Rattle.writer.proofs.accepts.laid_out.Goals as goal

-- The check proves this goal alone; the `let` names the part that a wrong body breaks.
pub returns-then-batches_good : goal.returns-then-batches_good
unfolding laid_out
returns-then-batches_good c =
    let handler : c.word-handler.result ≡ word (file_of c.args.bytes.now) on_unresolved_segment_tag = c.word-handler.ensures in
    grind (arith, common_steps)
