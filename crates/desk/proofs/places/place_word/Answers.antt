use Rattle.std.proofs.Common.{◌∙◌, arith, rules}
use Rattle.desk.proofs.places.Reading.{limited, word-behind, caller_word, count_word, unused_word, buffer_word_lem}
use Rattle.desk.proofs.places.place_word.Goals as goal

pub returns-then-taken-i : goal.returns-then-taken-i
returns-then-taken-i c = word-behind _ _ _ (omega arith)

pub returns-then-f-eq0 : goal.returns-then-f-eq0
returns-then-f-eq0 c = c.word.ensures ∙ caller_word _ _ (omega arith) _ c.if-f-eq0.true

pub returns-then-f-eq1 : goal.returns-then-f-eq1
returns-then-f-eq1 c = count_word _ _ (omega arith) c.word-2.ensures (c.min-waiting.ensures ∙ limited 16 _) (search rules) _ c.if-f-eq1.true

pub returns-then-waiting-f : goal.returns-then-waiting-f
returns-then-waiting-f c = unused_word _ _ (omega arith) c.word-2.ensures (c.min-waiting.ensures ∙ limited 16 _) _ c.if-f-eq0.false c.if-f-eq1.false (omega (arith, c.if-waiting-f.true))

pub returns : goal.returns
returns c =
    c.word-3.ensures
    ∙ buffer_word_lem _ _ (omega arith) c.word-2.ensures (c.min-waiting.ensures ∙ limited 16 _) _ c.if-f-eq0.false c.if-f-eq1.false
    c.if-waiting-f.false
