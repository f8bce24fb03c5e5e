-- The names stand in the order of what follows the bytes that are alike: byte by byte where a name may end, else of a word.
use Rattle.std.proofs.Common.{◌∙◌, arith}
use Rattle.window.proofs.name_rows.Laws.{ended_before, ended-after}
use Rattle.window.proofs.name_rows.compare_rows.Goals as goal

pub returns-then-a-i-lt4 : goal.returns-then-a-i-lt4
returns-then-a-i-lt4 c = c.compare_rows_from.ensures ∙ c.rows_alike-i.ensures.2

pub returns-then-has_zero : goal.returns-then-has_zero
returns-then-has_zero c = c.compare_rows_from-then-has_zero.ensures ∙ c.rows_alike-i.ensures.2

pub returns-then-high32 : goal.returns-then-high32
returns-then-high32 c =
    let a = c.args in
    ended-after a.a.now a.b.now c.rows_alike-i.result (λ k. omega (arith, c.type_inv.a k))
    (λ k. omega (arith, c.type_inv.b k)) (omega arith) (omega arith)
    (rw (← c.high32.ensures, ← c.high32-2.ensures) c.if-high32.true) (c.has_zero.ensures.0 c.if-has_zero.false)
    ∙ c.rows_alike-i.ensures.2

pub returns : goal.returns
returns c =
    let a = c.args in
    let z = c.has_zero.ensures.0 c.if-has_zero.false in
    ended_before a.a.now a.b.now c.rows_alike-i.result (λ k. omega (arith, c.type_inv.a k))
    (λ k. omega (arith, c.type_inv.b k)) (omega arith) (omega arith) (c.rows_alike-i.ensures.1 c.if-a-i-lt4.false z)
    (rw (← c.high32.ensures, ← c.high32-2.ensures) c.if-high32.false) z
    ∙ c.rows_alike-i.ensures.2
