-- No address, or the difference that wraps.
use Rattle.std.proofs.Common.{rules}
use Rattle.linker.proofs.unrebase.Laws.{back_none, back_some}
use Rattle.linker.proofs.unrebase.offset_back.Goals as goal

pub returns-then-x-eq0 : goal.returns-then-x-eq0
returns-then-x-eq0 c =
    let a = c.args in
    back_none a.base a.x c.if-x-eq0.true

pub returns : goal.returns
returns c =
    let a = c.args in
    back_some a.base a.x c.if-x-eq0.false (search rules) c.wrapping_sub_u32.ensures.value
