use Rattle.std.proofs.Common.{ℕ, ◌-◌, replicate, ◌≡◌, arith, rules}
use Rattle.std.proofs.lemmas.List.{get_or-replicate, length-replicate}
use Rattle.writer.proofs.image.Laws.{piece-laid}
use Rattle.writer.proofs.image.clear.Goals as goal

pub returns : goal.returns
returns c =
    let a = c.args in
    let n = a.to - a.from in
    let cleared : c.fill.new.self ≡ replicate {A = ℕ} n 0 = search rules in
    rw cleared
    (piece-laid a.from n a.to (λ _. 0) a.buffer.now (replicate n 0) (length-replicate n 0) (omega (arith, c.requires)) c.requires.1
    (λ i l. get_or-replicate n i 0 0 l))
