use Rattle.std.proofs.Common.{◌≡◌, ◌++◌, take, ap, ◌∙◌, arith, length-set}
use Rattle.window.proofs.name.Laws.{laid, laid_byte, laid-rest, start_full, start_end, start-next}
use Rattle.window.proofs.name.copy_name.Goals as goal

pub returns-then-b-eq0 : goal.returns-then-b-eq0
returns-then-b-eq0 c =
    let l = c.loop-n in
    let e = start_end _ l.n (omega arith) c.if-b-eq0.true in
    laid l.n l.buffer _ (omega arith) (ap (λ rest. take l.n l.buffer ++ rest) e ∙ l.invariant.2) l.invariant.3

pub loop-n-preserved : goal.loop-n-preserved
loop-n-preserved c =
    let l = c.loop-n in
    let e = start-next c.args.w.now l.n (omega arith) c.if-b-eq0.false in (
      omega arith,
      simp length-set l.invariant.1,
      laid_byte l.n l.buffer _ _ (omega arith) ∙ ap (λ rest. take l.n l.buffer ++ rest) e ∙ l.invariant.2,
      laid-rest l.n l.buffer _ _ l.invariant.3,
    )

pub returns : goal.returns
returns c =
    let l = c.loop-n in
    let n : 512 ≡ l.n = omega arith in
    let e = start_full _ l.n c.loop-n-test.false in
    ap (λ k. (k, l.buffer)) n
    ∙ laid l.n l.buffer _ (omega arith) (ap (λ rest. take l.n l.buffer ++ rest) e ∙ l.invariant.2) l.invariant.3
