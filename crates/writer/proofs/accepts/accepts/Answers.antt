-- The check proves this goal alone; the `let` names the part that a wrong body breaks.
use Rattle.std.proofs.Common.{◌≡◌, ap, ◌∙◌, arith}
use Rattle.std.proofs.lemmas.Grind.{common_steps}
use Rattle.writer_spec.specs.Description.{file_of, image_size}
use Rattle.writer_spec.specs.Words.{word_kinds}
use Rattle.writer_spec.specs.Accepts.{laid_out, accepts}
use Rattle.writer.proofs.accepts.accepts.Goals as goal

pub returns-then-named : goal.returns-then-named
unfolding accepts
returns-then-named c =
    let d = c.args.description.now in
    let last : c.laid_out.result ≡ laid_out (file_of d) word_kinds (image_size d) =
    c.laid_out.ensures ∙ ap (laid_out (file_of d) word_kinds) c.image_size.ensures
    in grind (arith, common_steps)
