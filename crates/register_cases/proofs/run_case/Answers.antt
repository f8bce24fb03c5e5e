-- The three buffers in turn, and the verdict on them. Their lengths are told, since counting their zeros one by one is too long.
use mathlib.Core.Path.{◌∙◌}
use Rattle.register_cases.specs.Cases.{case_over}
use Rattle.register_cases.proofs.Laws.{past, there, stop, on}
use Rattle.register_cases.proofs.run_case.Goals as goal

pub returns-then-file-at : goal.returns-then-file-at
returns-then-file-at c = past _ _ c.if-file-at.true

pub returns-in_err-a : goal.returns-in_err-a
unfolding case_over
returns-in_err-a c =
    rw c.from_residual.ensures
    (stop _ _ _ c.word.ensures c.put_pieces.ensures _ c.in_err-a.was
    ∙ there _ _ c.if-file-at.false)

pub returns-in_err-b : goal.returns-in_err-b
unfolding case_over
returns-in_err-b c =
    rw c.from_residual-in_err-b.ensures
    (stop _ _ _ c.word-2.ensures c.put_pieces-2.ensures _ c.in_err-b.was
    ∙ on _ _ _ c.word.ensures c.put_pieces.ensures _ c.in_ok-a.was
    ∙ there _ _ c.if-file-at.false)

pub returns-in_err-next : goal.returns-in_err-next
unfolding case_over
returns-in_err-next c =
    rw c.from_residual-in_err-next.ensures
    (stop _ _ _ c.word-3.ensures c.put_pieces-3.ensures _ c.in_err-next.was
    ∙ on _ _ _ c.word-2.ensures c.put_pieces-2.ensures _ c.in_ok-b.was
    ∙ on _ _ _ c.word.ensures c.put_pieces.ensures _ c.in_ok-a.was
    ∙ there _ _ c.if-file-at.false)

pub returns : goal.returns
unfolding case_over
returns c =
    rw (c.word-r.ensures, c.word-n.ensures, c.word-m.ensures) at c.judge.ensures
    ∙ on _ _ _ c.word-3.ensures c.put_pieces-3.ensures _ c.in_ok-next.was
    ∙ on _ _ _ c.word-2.ensures c.put_pieces-2.ensures _ c.in_ok-b.was
    ∙ on _ _ _ c.word.ensures c.put_pieces.ensures _ c.in_ok-a.was
    ∙ there _ _ c.if-file-at.false
