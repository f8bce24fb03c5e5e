use Rattle.std.proofs.Common.{◌-◌, ◌+◌, ◌∙◌, arith}
use Rattle.register.proofs.append.Laws.{copied_within, inserted}
use Rattle.register.proofs.append.waiting.insert_waiting.Goals as goal

pub returns : goal.returns
returns c =
    let a = c.args in
    let up = c.copy_within.ensures.after ∙ copied_within a.buffer.now a.from (a.from + 8) (a.to - a.from) (omega arith) (omega arith) in
    inserted _ _ _ _ _ up c.store32.ensures c.store32-2.ensures
