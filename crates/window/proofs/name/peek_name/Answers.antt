-- What the name is, whatever its trace: `laid_peeked`.
use Rattle.window.proofs.name.Laws.{laid_peeked}
use Rattle.window.proofs.name.peek_name.Goals as goal

pub returns : goal.returns
returns c =
    let a = c.args in
    laid_peeked a.at a.address _ a.buffer.now c.read_into.ensures.0
