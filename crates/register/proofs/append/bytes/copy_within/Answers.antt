use Rattle.std.proofs.Common.{◌≡◌, ◌+◌, ◌-◌, drop, ap, ◌∙◌, arith}
use lib.Seq.{paste}
use Rattle.register.proofs.append.Laws.{copied_within}
use Rattle.register.proofs.append.bytes.copy_within.Goals as goal

pub returns : goal.returns
returns c =
    let a = c.args in
    let n : a.from + a.count - a.from ≡ a.count = omega arith in
    c.copy_within.ensures.after ∙ ap (paste a.buffer.now a.to (drop a.from a.buffer.now)) n
    ∙ copied_within a.buffer.now a.from a.to a.count c.requires.0 c.requires.1
