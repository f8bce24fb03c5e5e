-- Refused or placed: `back-refused` and `back-put`.
use Rattle.linker.proofs.rebase.Laws.{back-refused, back-put}
use Rattle.linker.proofs.rebase.segments.write_back.Goals as goal

pub returns-in_err-s : goal.returns-in_err-s
returns-in_err-s c =
    let a = c.args in
    rw c.from_residual.ensures (back-refused a.at a.base a.index (a.w.now, a.trace.now) c.in_err-s.was)

pub returns : goal.returns
returns c =
    let a = c.args in
    back-put a.at a.base a.index (a.w.now, a.trace.now) c.in_ok-s.was c.set_segment.ensures
