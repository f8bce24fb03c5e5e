-- By whether the module has its record: `initialize-refused`, `initialize-done`.
use Rattle.linker_spec.specs.Outcome.{buffers}
use Rattle.linker_spec.specs.Refusal.{refusal-not-0, number_of}
use Rattle.std.proofs.Common.{sym, ap, ◌∙◌}
use Rattle.linker.proofs.Results.{err-number, err-value}
use Rattle.linker.proofs.calls.Calls.{initialize-refused, initialize-done}
use Rattle.linker.proofs.calls.initialize.Goals as goal

pub returns : goal.returns
returns c =
    let a = c.args in
    let b = buffers a.w.now a.records.now a.names.now a.missing.now in
    initialize-done a.at a.base a.size b a.trace.now c.rebase_static-rebased.ensures c.add_record.ensures c.requires (ap number_of c.in_ok-add_record.was)
    c.clear_list_fields.ensures c.set_crs.ensures

pub returns-in_err-add_record : goal.returns-in_err-add_record
returns-in_err-add_record c =
    let a = c.args in
    let b = buffers a.w.now a.records.now a.names.now a.missing.now in
    let refusal = c.in_err-add_record.field-0.0 in
    rw (err-number c.from_residual.result refusal c.from_residual.ensures.1, err-value c.from_residual.result refusal c.from_residual.ensures.1, ← ap number_of c.in_err-add_record.was)
    (initialize-refused a.at a.base a.size b a.trace.now c.rebase_static-rebased.ensures c.add_record.ensures
    (λ zero. refusal-not-0 refusal (sym (ap number_of c.in_err-add_record.was) ∙ zero)))
