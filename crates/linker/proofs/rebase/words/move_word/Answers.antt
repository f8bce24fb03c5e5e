-- By the word: `word_kept` and `word_moved`.
use Rattle.linker.proofs.rebase.Laws.{word_kept, word_moved}
use Rattle.linker.proofs.rebase.words.move_word.Goals as goal

pub returns-then-value-eq0 : goal.returns-then-value-eq0
returns-then-value-eq0 c =
    let a = c.args in
    word_kept a.at a.forward a.base a.p (a.w.now, a.trace.now) c.read32-value.ensures c.if-value-eq0.true

pub returns : goal.returns
returns c =
    let a = c.args in
    word_moved a.at a.forward a.base a.p (a.w.now, a.trace.now) c.read32-value.ensures c.if-value-eq0.false c.moved.ensures
    c.write32.ensures
