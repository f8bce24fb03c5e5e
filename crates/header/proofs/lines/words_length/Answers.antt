use mathlib.Core.List.{[]}
use mathlib.Core.Path.{◌≡◌}
use native.Mathlib.Omega.{arith}
use lib.ListN.{drop, drop_of_length-le}
use Rattle.header.specs.Lines.{words_length}
use Rattle.header.proofs.Words.{words_none, words_space, words_on}
use Rattle.header.proofs.lines.words_length.Goals.{then-c-eq32, else-c-eq32}
use Rattle.header.proofs.lines.words_length.Goals as goal

pub returns-then-left-eq0 : goal.returns-then-left-eq0
unfolding words_length
returns-then-left-eq0 c = let l = c.loop-i in omega (arith, rw c.if-left-eq0.true at l.invariant)

pub loop-i-preserved : goal.loop-i-preserved
loop-i-preserved c =
    let l = c.loop-i in
    let text = c.args.text.now in
    let h = c.loop-i-test.true in
    let n = c.if-left-eq0.false in
    elim c.if-c-eq32.branch [
      | then-c-eq32 w ↦ rw w.left-is (omega (arith, words_space text l.i h l.left n w.if-c-eq32.true))
      | else-c-eq32 w ↦ rw w.left-is (omega (arith, words_on text l.i h l.left n w.if-c-eq32.false))
    ]

pub returns : goal.returns
returns c =
    let l = c.loop-i in
    let e : drop l.i c.args.text.now ≡ [] = drop_of_length-le _ c.loop-i-test.false in
    omega (arith, rw (e, words_none l.left) at l.invariant)
