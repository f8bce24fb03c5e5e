use Rattle.std.proofs.Common.{◌∙◌, arith}
use Rattle.desk.proofs.places.Reading.{most_waiting_lem}
use Rattle.desk.proofs.places.Changes.{sent_caller, sent_count, sent_last, sent_other}
use Rattle.desk.proofs.places.sent_word.Goals as goal

pub returns-then-f-eq0 : goal.returns-then-f-eq0
returns-then-f-eq0 c = sent_caller _ _ _ _ _ c.if-f-eq0.true

pub overflow_add-result : goal.overflow_add-result
overflow_add-result c =
    let args = c.args in
    let most = most_waiting_lem args.desk.now args.i in
    omega (arith, c.place_word-waiting.ensures)

pub returns-then-f-eq1 : goal.returns-then-f-eq1
returns-then-f-eq1 c = sent_count _ _ _ _ c.place_word-waiting.ensures _ c.if-f-eq1.true

pub returns-then-f-waiting : goal.returns-then-f-waiting
returns-then-f-waiting c = sent_last _ _ _ _ c.place_word-waiting.ensures _ c.if-f-eq0.false c.if-f-eq1.false c.if-f-waiting.true

pub returns : goal.returns
returns c = c.place_word.ensures ∙ sent_other _ _ _ _ c.place_word-waiting.ensures _ c.if-f-eq0.false c.if-f-eq1.false c.if-f-waiting.false
