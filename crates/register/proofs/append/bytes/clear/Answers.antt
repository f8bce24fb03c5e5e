use Rattle.std.proofs.Common.{rules}
use Rattle.register.proofs.append.Laws.{clear_some, clear_none}
use Rattle.register.proofs.append.bytes.clear.Goals as goal

pub returns-then-from-end : goal.returns-then-from-end
returns-then-from-end c =
    let a = c.args in
    clear_some a.buffer.now a.from a.to _ c.min-end.ensures c.if-from-end.true (c.fill.ensures.after (λ y h. search rules))

pub returns-else-from-end : goal.returns-else-from-end
returns-else-from-end c =
    let a = c.args in
    clear_none a.buffer.now a.from a.to _ c.min-end.ensures c.if-from-end.false
