use Rattle.std.proofs.Common.{◌+◌, ◌&&◌, drop, ap, ◌∙◌}
use Rattle.register.specs.Words.{all_zero}
use Rattle.register.proofs.Laws.{zero-off, zero_on, zero_left}
use Rattle.register.proofs.words.zero_from.Goals as goal
use Rattle.register.proofs.words.zero_from.Goals.{then-bytes-i-ne0, else-bytes-i-ne0}

pub loop-i-preserved : goal.loop-i-preserved
loop-i-preserved c =
    let l = c.args.bytes.now in
    let i = c.loop-i.i in
    let z = c.loop-i.zero in
    elim c.if-bytes-i-ne0.branch [
      | then-bytes-i-ne0 w ↦
          ap (λ z. z && all_zero (drop (i + 1) l)) w.zero-is ∙ zero-off l i z c.loop-i-test.true w.if-bytes-i-ne0.true ∙ c.loop-i.invariant
      | else-bytes-i-ne0 w ↦
          ap (λ z. z && all_zero (drop (i + 1) l)) w.zero-is ∙ ap (λ b. z && b) (zero_on l i c.loop-i-test.true w.if-bytes-i-ne0.false) ∙ c.loop-i.invariant
    ]

pub returns : goal.returns
returns c = zero_left c.args.bytes.now c.loop-i.i c.loop-i.zero c.loop-i-test.false ∙ c.loop-i.invariant
