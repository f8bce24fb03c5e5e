use Rattle.std.proofs.Common.{◌∙◌}
use Rattle.desk.proofs.places.Changes.{count-first, next_second, then-zeros, then_places}
use Rattle.desk.proofs.places.word_after.Goals as goal

pub returns-then-k-eq0 : goal.returns-then-k-eq0
returns-then-k-eq0 c = c.taken_after.ensures ∙ count-first _ _ c.if-k-eq0.true

pub returns-then-k-eq1 : goal.returns-then-k-eq1
returns-then-k-eq1 c = c.next_after.ensures ∙ next_second _ _ c.if-k-eq1.true

pub returns-then-k-lt4 : goal.returns-then-k-lt4
returns-then-k-lt4 c = then-zeros _ _ c.if-k-eq0.false c.if-k-eq1.false c.if-k-lt4.true

pub returns : goal.returns
returns c = c.place_word_after.ensures ∙ then_places _ _ c.if-k-lt4.false
