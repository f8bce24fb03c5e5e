use Rattle.linker.specs.Calls.Laws.{clear_list_fields_is}
use Rattle.linker.proofs.calls.clear_list_fields.Goals as goal

pub returns : goal.returns
returns c =
    let a = c.args in
    clear_list_fields_is a.at a.base (a.w.now, a.trace.now) c.set_field.ensures c.set_field-2.ensures
