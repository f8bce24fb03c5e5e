use Rattle.std.proofs.Common.{refl, arith}
use Rattle.writer_spec.specs.Description.{file_of}
use Rattle.writer.proofs.image.Laws.{none_laid, one-laid}
use Rattle.writer.proofs.image.copy.Goals as goal

pub loop-i-init : goal.loop-i-init
loop-i-init c = (c.requires, none_laid 0 (file_of c.args.from.now) c.args.buffer.now)

pub loop-i-preserved : goal.loop-i-preserved
unfolding file_of
loop-i-preserved c =
    let now = c.loop-i in
    (now.invariant.0, one-laid 0 (file_of c.args.from.now) c.args.buffer.now now.i _ now.buffer (omega arith) (omega arith) refl now.invariant.1)
