use Prim.Native.Nat.{◌+◌, ◌-◌}
use mathlib.Core.Path.{◌≡◌, ap, ◌∙◌}
use native.Mathlib.Omega.{arith}
use native.Mathlib.Numerals.{add-one}
use lib.ListN.{length-set}
use Rattle.text.specs.Text.{put}
use Rattle.text.specs.Puts.{written}
use Rattle.text.specs.Laws.{shorter}
use Rattle.text.proofs.Laws.{more_left, digit_more, digit_last}
use Rattle.text.proofs.Text.put_number.Goals as goal

pub overflow_sub-i : goal.overflow_sub-i
overflow_sub-i c = let l = c.loop-rest in more_left _ _ _ l.invariant.1 c.loop-rest-test.true

pub loop-rest-preserved : goal.loop-rest-preserved
loop-rest-preserved c =
    let l = c.loop-rest in
    let g = c.loop-rest-test.true in
    let p = c.requires in
    let e : l.i - 1 + 1 ≡ l.i = omega (arith, more_left _ _ _ l.invariant.1 g) in (
      omega arith,
      rw e (shorter _ l.i l.rest p.0 (rw add-one at l.invariant.1)),
      simp length-set l.invariant.2,
      rw e (digit_more _ l.i l.rest l.digits (omega arith) g c.digit.ensures ∙ l.invariant.3),
    )

pub returns : goal.returns
returns c =
    let l = c.loop-rest in
    let a = c.args in
    let e = digit_last _ l.i l.rest l.digits (omega arith) 10 l.invariant.2 c.loop-rest-test.false c.digit-2.ensures in
    record { text = c.put.ensures.text ∙ ap (λ s. put s (written a.self.now)) (e ∙ l.invariant.3); same = c.put.ensures.same }
