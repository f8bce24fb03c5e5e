use Rattle.fillqhano.proofs.Laws.{told}
use Rattle.fillqhano.proofs.tell.Goals as goal

pub returns : goal.returns
returns c =
    let a = c.args in
    told a.trace.now c.touched.ensures c.first.ensures
