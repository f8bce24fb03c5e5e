-- The pieces, and the text of what they make. The buffer's length is told, since counting its zeros one by one is too long.
use mathlib.Core.Path.{◌∙◌}
use native.Mathlib.Omega.{arith}
use Rattle.session_cases.specs.Cases.{case_over}
use Rattle.session_cases.proofs.Laws.{past, there, stop, on}
use Rattle.session_cases.proofs.run_case.Goals as goal

pub returns-then-all-lt2 : goal.returns-then-all-lt2
returns-then-all-lt2 c = past _ _ _ (omega arith)

pub returns-then-all-at : goal.returns-then-all-at
returns-then-all-at c = past _ _ _ (omega arith)

pub returns-in_err-next : goal.returns-in_err-next
unfolding case_over
returns-in_err-next c =
    rw c.from_residual.ensures
    (stop _ _ _ c.word.ensures c.put_pieces.ensures _ _ c.in_err-next.was
    ∙ there _ _ _ (omega arith))

pub returns : goal.returns
unfolding case_over
returns c =
    rw c.word-n.ensures at c.put_case.ensures
    ∙ on _ _ _ c.word.ensures c.put_pieces.ensures _ _ c.in_ok-next.was
    ∙ there _ _ _ (omega arith)
