use Prim.Native.Nat.{◌+◌}
use mathlib.Core.Bool.{◌&&◌}
use mathlib.Core.Path.{◌∙◌, ap}
use lib.ListN.{drop}
use Rattle.window.specs.Name.{no_zero}
use Rattle.register_test.proofs.records.Laws.{no_zero-off, no_zero_on, no_zero-left}
use Rattle.register_test.proofs.records.no_zero.Goals as goal
use Rattle.register_test.proofs.records.no_zero.Goals.{then-b-eq0, else-b-eq0}

pub loop-b-preserved : goal.loop-b-preserved
loop-b-preserved c =
    let l = c.args.bytes.now in
    let i = c.loop-b.b-index in
    let z = c.loop-b.none in
    elim c.if-b-eq0.branch [
      | then-b-eq0 w ↦
          ap (λ z. z && no_zero (drop (i + 1) l)) w.none-is ∙ no_zero-off l i z c.loop-b-test.true w.if-b-eq0.true ∙ c.loop-b.invariant
      | else-b-eq0 w ↦
          ap (λ z. z && no_zero (drop (i + 1) l)) w.none-is ∙ ap (λ b. z && b) (no_zero_on l i c.loop-b-test.true w.if-b-eq0.false) ∙ c.loop-b.invariant
    ]

pub returns : goal.returns
returns c =
    let l = c.loop-b in
    no_zero-left c.args.bytes.now l.b-index l.none c.loop-b-test.false ∙ l.invariant
