-- By what the relocation writes: `nothing_written` and `word-written`.
use Rattle.layout.proofs.relocation.Laws.{nothing_written, word-written}
use Rattle.layout.proofs.relocation.apply_relocation.Goals as goal

pub returns-in_default : goal.returns-in_default
returns-in_default c =
    let a = c.args in
    nothing_written a.at a.target a.kind a.addend a.symbol a.target_final (a.w.now, a.trace.now)
    c.relocated_word.ensures c.in_default.is

pub returns : goal.returns
returns c =
    let a = c.args in
    word-written a.at a.target a.kind a.addend a.symbol a.target_final (a.w.now, a.trace.now)
    c.relocated_word.ensures c.in-Some.word c.in-Some.is c.write32_privileged.ensures
