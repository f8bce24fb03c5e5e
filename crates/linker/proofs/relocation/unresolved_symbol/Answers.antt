-- What the handler's tag gives: `handler_is`.
use Rattle.linker.proofs.relocation.Laws.{handler_is}
use Rattle.linker.proofs.relocation.unresolved_symbol.Goals as goal

pub returns : goal.returns
returns c =
    let a = c.args in
    handler_is a.at a.base (a.w.now, a.trace.now) c.field.ensures c.tag_to_address.ensures c.unwrap_or.ensures
