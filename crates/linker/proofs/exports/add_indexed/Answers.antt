use Rattle.linker.proofs.exports.Laws.{added_indexed}
use Rattle.linker.proofs.exports.add_indexed.Goals as goal

pub returns : goal.returns
returns c =
    let a = c.args in
    added_indexed a.at a.w.now a.base a.i a.table _ _ a.before a.records.now a.names.now _ _ _ _ _
    c.entry_address-entry.ensures c.indexed_address-address.ensures c.indexed_address-address.type_inv
    c.push_indexed-after.ensures c.keep_or_give_up.ensures
