-- A piece is laid by `put_bytes` if it is all in the file.
use mathlib.Core.Path.{sym, ap, ◌∙◌}
use native.Mathlib.Omega.{arith}
use Rattle.case_reader.specs.Pieces.{placed}
use Rattle.case_reader.proofs.Laws.{outside, cut, inside}
use Rattle.case_reader.proofs.put_piece.Goals as goal

pub returns-then-all-at : goal.returns-then-all-at
returns-then-all-at c = outside _ _ _ c.if-all-at.true

pub returns-then-all-at-2 : goal.returns-then-all-at-2
returns-then-all-at-2 c = cut _ _ _ c.word-n.ensures (omega arith) c.if-all-at-2.true

pub returns : goal.returns
unfolding placed
returns c =
    let p = c.put_bytes in
    ap (placed _) (ap (λ r. (r, p.new.buffer)) (sym c.in_ok-put_bytes.was))
    ∙ inside _ _ _ c.word-n.ensures c.word.ensures (omega arith) (omega arith) p.ensures

pub returns-in_err-put_bytes : goal.returns-in_err-put_bytes
unfolding placed
returns-in_err-put_bytes c =
    let p = c.put_bytes in
    rw c.from_residual.ensures
    (ap (placed _) (ap (λ r. (r, p.new.buffer)) (sym c.in_err-put_bytes.was))
    ∙ inside _ _ _ c.word-n.ensures c.word.ensures (omega arith) (omega arith) p.ensures)
