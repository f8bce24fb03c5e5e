use mathlib.Core.Path.{◌≡◌, ◌∙◌}
use Prim.Native.Nat.{◌+◌, ◌-◌}
use native.Mathlib.Omega.{arith}
use Rattle.case_reader.specs.Pieces.{pieces}
use Rattle.case_reader.proofs.Laws.{pieces-stop, pieces_on}
use Rattle.case_reader.proofs.put_pieces.Goals as goal

pub returns-in_err-place : goal.returns-in_err-place
returns-in_err-place c =
    rw c.from_residual.ensures (pieces-stop _ _ _ _ (omega arith) c.put_piece.ensures c.in_err-place.was ∙ c.loop-k.invariant.1)

pub loop-k-preserved : goal.loop-k-preserved
loop-k-preserved c =
    let l = c.loop-k in
    let n = c.args.count in
    let e : n - (l._k + 1) ≡ n - l._k - 1 = omega arith in
    (c.put_piece.auto.buffer ∙ l.invariant.0, rw e (pieces_on _ _ _ _ (omega arith) c.put_piece.ensures c.in_ok-place.was ∙ l.invariant.1))

pub returns : goal.returns
unfolding pieces
returns c = let z : c.args.count - c.loop-k._k ≡ 0 = omega arith in rw z at c.loop-k.invariant.1
