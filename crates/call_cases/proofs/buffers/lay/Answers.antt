use Rattle.call_cases.proofs.buffers.Laws.{past, not_before, not_after, all_laid}
use Rattle.call_cases.proofs.buffers.lay.Goals as goal

pub returns-then-file-at : goal.returns-then-file-at
returns-then-file-at c = past _ _ _ _ c.if-file-at.true

pub returns-in_err-next : goal.returns-in_err-next
returns-in_err-next c =
    rw c.from_residual.ensures
    (not_before _ _ _ _ c.if-file-at.false c.word-standing.ensures c.word-changed.ensures c.put_pieces.ensures c.in_err-next.was)

pub returns-in_err-put_pieces : goal.returns-in_err-put_pieces
returns-in_err-put_pieces c =
    rw c.from_residual-in_err-put_pieces.ensures
    (not_after _ _ _ _ c.if-file-at.false c.word-standing.ensures c.word-changed.ensures c.put_pieces.ensures _ c.in_ok-next.was
    c.put_pieces-2.ensures c.in_err-put_pieces.was)

pub returns : goal.returns
returns c =
    all_laid _ _ _ _ c.if-file-at.false c.word-standing.ensures c.word-changed.ensures c.put_pieces.ensures _ c.in_ok-next.was
    c.put_pieces-2.ensures c.in_ok-put_pieces.was c.put_pieces-3.ensures
