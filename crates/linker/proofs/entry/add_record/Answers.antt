-- By how the rebase ended, and by whether the record has room: `add_record-not_rebased`, `add_record-no_room`, `add_record-done`.
use Rattle.linker_spec.specs.Refusal.{rebase_refusal}
use Rattle.linker.proofs.Results.{err-number}
use Rattle.linker.proofs.entry.Laws.{add_record-not_rebased, add_record-no_room, add_record-done}
use Rattle.linker.proofs.entry.add_record.Goals as goal

pub returns : goal.returns
returns c =
    let a = c.args in
    add_record-done a.at a.w.now a.trace.now a.records.now a.names.now a.base a.size a.auto_link c.in_ok-rebased.was
    c.reset_external_relocations.ensures c.index_exports.result c.index_exports.ensures.0 c.in-Some.is
    (c.touch_module.ensures a.size a.auto_link)

pub returns-in_err-rebased : goal.returns-in_err-rebased
returns-in_err-rebased c =
    let a = c.args in
    rw (err-number c.from_residual.result (rebase_refusal c.in_err-rebased.field-0.0) c.from_residual.ensures.1)
    (add_record-not_rebased a.at a.w.now a.trace.now a.records.now a.names.now a.base a.size a.auto_link _ c.in_err-rebased.was)

pub returns-in_default : goal.returns-in_default
returns-in_default c =
    let a = c.args in
    add_record-no_room a.at a.w.now a.trace.now a.records.now a.names.now a.base a.size a.auto_link c.in_ok-rebased.was
    c.reset_external_relocations.ensures c.index_exports.result c.index_exports.ensures.0 c.in_default.is
