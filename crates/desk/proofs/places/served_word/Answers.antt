use Rattle.std.proofs.Common.{◌-◌, sym, ap, ◌∙◌, arith}
use Rattle.desk.proofs.places.Changes.{served_caller, served_buffer, served-count}
use Rattle.desk.proofs.places.served_word.Goals as goal

pub returns-then-f-eq0 : goal.returns-then-f-eq0
returns-then-f-eq0 c = c.place_word.ensures ∙ served_caller _ _ _ c.if-f-eq0.true

pub returns-then-f-gt1 : goal.returns-then-f-gt1
returns-then-f-gt1 c = c.place_word-then-f-gt1.ensures ∙ served_buffer _ _ _ c.if-f-gt1.true

pub returns-then-waiting-eq0 : goal.returns-then-waiting-eq0
returns-then-waiting-eq0 c = ap (λ n. n - 1) (sym c.if-waiting-eq0.true ∙ c.place_word-waiting.ensures) ∙ served-count _ _ _ (omega arith)

pub returns : goal.returns
returns c = ap (λ n. n - 1) c.place_word-waiting.ensures ∙ served-count _ _ _ (omega arith)
