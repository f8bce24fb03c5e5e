-- What `note_word` keeps, and the word upward.
use Rattle.window.proofs.TraceLaws.{write_p_is}
use Rattle.window.proofs.write32_privileged_at_edge.Goals as goal

pub returns : goal.returns
returns c =
    let a = c.args in
    write_p_is a.at a.w.now a.trace.now a.x a.v c.write32_upward.ensures c.note_word.ensures
