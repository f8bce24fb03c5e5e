use Rattle.linker.proofs.exports.Laws.{added_segment}
use Rattle.linker.proofs.exports.add_segment.Goals as goal

pub returns : goal.returns
returns c =
    let a = c.args in
    added_segment a.at a.w.now a.base a.i _ a.before a.records.now a.names.now _ _ _ _ _
    c.segment_offset-address.ensures c.segment_offset-address.type_inv
    c.push_segment-after.ensures c.keep_or_give_up.ensures
