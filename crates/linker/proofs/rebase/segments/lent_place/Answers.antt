-- By the lent size: `lent-refused` and `lent-put`.
use Rattle.linker.proofs.rebase.Laws.{lent-refused, lent-put}
use Rattle.linker.proofs.rebase.segments.lent_place.Goals as goal

pub returns-then-s-size : goal.returns-then-s-size
returns-then-s-size c =
    let a = c.args in
    lent-refused a.s a.address a.size a.old c.if-s-size.true

pub returns : goal.returns
returns c =
    let a = c.args in
    lent-put a.s a.address a.size a.old c.if-s-size.false c.at_offset.ensures
