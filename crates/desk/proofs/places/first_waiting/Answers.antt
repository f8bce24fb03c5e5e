use Rattle.std.proofs.Common.{sym, ◌∙◌, arith}
use Rattle.desk.proofs.places.Turns.{waits_here, waits_later, waits_nowhere}
use Rattle.desk.proofs.places.first_waiting.Goals as goal

pub returns-then-place_word-ne0 : goal.returns-then-place_word-ne0
returns-then-place_word-ne0 c =
    let now = c.loop-i in
    waits_here _ now.i (omega arith) (λ e. c.if-place_word-ne0.true (c.place_word.ensures ∙ e)) ∙ now.invariant

pub loop-i-preserved : goal.loop-i-preserved
loop-i-preserved c =
    let now = c.loop-i in
    waits_later _ now.i (omega arith) (sym c.place_word.ensures ∙ c.if-place_word-ne0.false) ∙ now.invariant

pub returns : goal.returns
returns c = waits_nowhere _ c.loop-i.i (omega arith) ∙ c.loop-i.invariant
