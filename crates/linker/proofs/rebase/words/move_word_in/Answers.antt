-- By the word, as in `move_word`; the accesses are `word-there` and `put-there`.
use Rattle.std.proofs.Common.{ap, ◌∙◌}
use Rattle.window.proofs.row.Laws.{word-there, put-there}
use Rattle.linker.proofs.rebase.Laws.{word_kept, word_moved}
use Rattle.linker.proofs.rebase.words.move_word_in.Goals as goal

pub returns-then-value-eq0 : goal.returns-then-value-eq0
returns-then-value-eq0 c =
    let a = c.args in
    λ at p trace stands.
    word_kept at a.forward a.base p (a.w.now, trace)
    (ap (λ v. (v, (a.w.now, trace))) c.load32-value.ensures ∙ word-there at a.w.now p a.i stands trace) c.if-value-eq0.true

pub returns : goal.returns
returns c =
    let a = c.args in
    λ at p trace stands.
    word_moved at a.forward a.base p (a.w.now, trace)
    (ap (λ v. (v, (a.w.now, trace))) c.load32-value.ensures ∙ word-there at a.w.now p a.i stands trace) c.if-value-eq0.false
    c.moved.ensures (ap (λ u. (u, trace)) c.store32.ensures ∙ put-there at a.w.now p a.i stands trace c.moved.result)
