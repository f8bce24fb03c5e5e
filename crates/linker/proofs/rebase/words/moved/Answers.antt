-- Forward or back: `moved_forward`, `moved_back`.
use Rattle.std.proofs.Common.{rules}
use Rattle.linker.proofs.rebase.Laws.{moved_forward, moved_back}
use Rattle.linker.proofs.rebase.words.moved.Goals as goal

pub returns-then-forward : goal.returns-then-forward
returns-then-forward c =
    let a = c.args in
    moved_forward a.base a.value c.if-forward.true c.wrapping_add_u32.ensures.value

pub returns : goal.returns
returns c =
    let a = c.args in
    moved_back a.base a.value c.if-forward.false (search rules) c.wrapping_sub_u32.ensures.value
