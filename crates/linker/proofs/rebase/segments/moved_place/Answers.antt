-- No offset, one past the image's end, one inside.
use Rattle.linker.proofs.rebase.Laws.{moved_none, moved-refused, moved-put}
use Rattle.linker.proofs.rebase.segments.moved_place.Goals as goal

pub returns-then-s-eq0 : goal.returns-then-s-eq0
returns-then-s-eq0 c =
    let a = c.args in
    moved_none a.lent a.s a.old c.if-s-eq0.true

pub returns-then-offset-wrapping_add_u32 : goal.returns-then-offset-wrapping_add_u32
returns-then-offset-wrapping_add_u32 c =
    let a = c.args in
    moved-refused a.lent a.s a.old c.if-s-eq0.false c.wrapping_add_u32-offset.ensures.value c.wrapping_add_u32.ensures.value c.if-offset-wrapping_add_u32.true

pub returns : goal.returns
returns c =
    let a = c.args in
    moved-put a.lent a.s a.old c.if-s-eq0.false c.wrapping_add_u32-offset.ensures.value c.wrapping_add_u32.ensures.value c.if-offset-wrapping_add_u32.false
    c.at_offset.ensures
