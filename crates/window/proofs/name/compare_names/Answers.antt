-- The names stand in the order of what follows the bytes that are alike: of fewer bytes than four, or of a word.
use Rattle.std.proofs.Common.{◌∙◌, arith}
use Rattle.window.proofs.name.Laws.{word_before, word_after}
use Rattle.window.proofs.name.compare_names.Goals as goal

pub returns-then-n-i-lt4 : goal.returns-then-n-i-lt4
returns-then-n-i-lt4 c = c.compare_from.ensures ∙ c.alike-i.ensures.2

pub returns-then-high32 : goal.returns-then-high32
returns-then-high32 c =
    let a = c.args in
    word_after a.a.now a.b.now c.alike-i.result (λ k. omega (arith, c.type_inv.a k))
    (λ k. omega (arith, c.type_inv.b k)) (omega arith) (omega arith)
    (rw (← c.high32.ensures, ← c.high32-2.ensures) c.if-high32.true)
    ∙ c.alike-i.ensures.2

pub returns : goal.returns
returns c =
    let a = c.args in
    word_before a.a.now a.b.now c.alike-i.result (λ k. omega (arith, c.type_inv.a k))
    (λ k. omega (arith, c.type_inv.b k)) (omega arith) (omega arith) (c.alike-i.ensures.1 c.if-n-i-lt4.false)
    (rw (← c.high32.ensures, ← c.high32-2.ensures) c.if-high32.false)
    ∙ c.alike-i.ensures.2
