use Rattle.std.proofs.Common.{◌∙◌}
use Rattle.linker.proofs.record.Laws.{indexed_at}
use Rattle.linker.proofs.record.indexed_address.Goals as goal

pub returns : goal.returns
returns c =
    let a = c.args in
    c.unwrap_or.ensures ∙ indexed_at a.at a.w.now a.base a.entry c.word.ensures c.tag_to_address.ensures
