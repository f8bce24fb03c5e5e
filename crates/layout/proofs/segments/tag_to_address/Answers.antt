-- By cases: no such segment, an offset at or past its size, an offset inside.
use Rattle.layout.proofs.Accesses.{tag_nowhere, tag-past_end, tag-there}
use Rattle.layout.proofs.segments.tag_to_address.Goals as goal

pub returns-in_err-entry : goal.returns-in_err-entry
returns-in_err-entry c =
    let a = c.args in
    rw c.from_residual.ensures
    (tag_nowhere a.at a.base a.tag.0 (a.w.now, a.trace.now) c.segment.ensures c.segment-2.ensures c.in_err-entry.was)

pub returns-then-offset-entry : goal.returns-then-offset-entry
returns-then-offset-entry c =
    let a = c.args in
    tag-past_end a.at a.base a.tag.0 (a.w.now, a.trace.now) c.segment.ensures c.segment-2.ensures
    c.in_ok-entry.entry c.in_ok-entry.was c.offset-offset.ensures c.if-offset-entry.true

pub returns : goal.returns
returns c =
    let a = c.args in
    tag-there a.at a.base a.tag.0 (a.w.now, a.trace.now) c.segment.ensures c.segment-2.ensures
    c.in_ok-entry.entry c.in_ok-entry.was c.offset-offset.ensures c.if-offset-entry.false c.wrapping_add_u32.ensures.value
