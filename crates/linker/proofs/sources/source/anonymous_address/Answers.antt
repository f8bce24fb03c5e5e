-- By whether the record has the tag's segment.
use Rattle.register.specs.Read.Read.{module_at}
use Rattle.linker.proofs.sources.Laws.{anonymous_none, anonymous_some}
use Rattle.linker.proofs.sources.source.anonymous_address.Goals as goal

pub returns-in_err-start : goal.returns-in_err-start
returns-in_err-start c =
    let a = c.args in
    λ names. rw c.from_residual.ensures
    (anonymous_none (module_at a.records.now names a.place) a.tag.0 c.segment.ensures
    (c.segment_address.ensures names) c.in_err-start.was)

pub returns : goal.returns
returns c =
    let a = c.args in
    λ names. anonymous_some (module_at a.records.now names a.place) a.tag.0 c.segment.ensures
    (c.segment_address.ensures names) c.in_ok-start.was c.offset.ensures c.wrapping_add_u32.ensures.value
