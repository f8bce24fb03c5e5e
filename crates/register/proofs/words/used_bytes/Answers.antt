use Rattle.std.proofs.Common.{◌<◌, length, sym, ◌∙◌, arith}
use Rattle.register.specs.Words.{words_in, length-words}
use Rattle.register.proofs.HeaderLaws.{used-short, used_stands, used_none, used-zero}
use Rattle.register.proofs.words.used_bytes.Goals as goal

pub returns-then-records-lt16 : goal.returns-then-records-lt16
returns-then-records-lt16 c = used-short _ c.if-records-lt16.true

pub returns-then-used-ne0 : goal.returns-then-used-ne0
returns-then-used-ne0 c = used_stands _ c.word-used.ensures c.if-used-ne0.true

pub returns-then-word-eq0 : goal.returns-then-word-eq0
returns-then-word-eq0 c = let h : 3 < length (words_in c.args.records.now) =
    omega (arith, length-words c.args.records.now) in
    used_none _ h (sym c.word-used.ensures ∙ c.if-used-ne0.false) (sym c.word.ensures ∙ c.if-word-eq0.true)

pub returns : goal.returns
returns c = used-zero _ (sym c.word-used.ensures ∙ c.if-used-ne0.false)
    (λ e. c.if-word-eq0.false (c.word.ensures ∙ e))
