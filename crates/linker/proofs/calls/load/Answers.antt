-- By whether the module has its record: `load-refused`, `load-done`.
use Rattle.std.proofs.Common.{sym, ap, ◌∙◌, arith}
use Rattle.linker_spec.specs.Outcome.{buffers}
use Rattle.linker_spec.specs.Refusal.{refusal-not-0, number_of}
use Rattle.linker.proofs.Results.{err-number, err-value}
use Rattle.linker.proofs.calls.Calls.{load-refused, load_linkable, load-done}
use Rattle.linker.proofs.calls.load.Goals as goal

pub returns : goal.returns
returns c =
    let a = c.args in
    let b = buffers a.w.now a.records.now a.names.now a.missing.now in
    let g = c.well_formed.1.1.1.1.1.1.0 in
    load-done a.at a.given a.auto_link a.fix_level b a.trace.now c.rebase-rebased.ensures c.add_record.ensures c.requires (ap number_of c.in_ok-add_record.was)
    (λ i. omega (arith, c.slice_known-8-1.given i)) (λ i. omega (arith, c.slice_known-3-1.given i)) (omega (arith, g.1.1.0.1)) (omega (arith, g.1.1.1.0.1))
    c.used_bytes-place.ensures c.link-fixed.ensures (λ i. omega (arith, c.type_inv.records i)) (c.link-fixed.auto.records ∙ c.add_record.auto.records)

pub link-fixed-requires : goal.link-fixed-requires
link-fixed-requires c =
    let a = c.args in
    let b = buffers a.w.now a.records.now a.names.now a.missing.now in
    let g = c.well_formed.1.1.1.1.1.1.0 in
    let l =
    load_linkable a.at a.given a.auto_link a.fix_level b a.trace.now c.rebase-rebased.ensures c.add_record.ensures c.requires (ap number_of c.in_ok-add_record.was)
    (λ i. omega (arith, c.slice_known-8-1.given i)) (λ i. omega (arith, c.slice_known-3-1.given i)) (omega (arith, g.1.1.0.1)) (omega (arith, g.1.1.1.0.1)) in
    record { registered = l.0; last_record = l.1 _ c.used_bytes-place.ensures }

pub returns-in_err-add_record : goal.returns-in_err-add_record
returns-in_err-add_record c =
    let a = c.args in
    let b = buffers a.w.now a.records.now a.names.now a.missing.now in
    let refusal = c.in_err-add_record.field-0.0 in
    rw (err-number c.from_residual.result refusal c.from_residual.ensures.1, err-value c.from_residual.result refusal c.from_residual.ensures.1, ← ap number_of c.in_err-add_record.was)
    (load-refused a.at a.given a.auto_link a.fix_level b a.trace.now c.rebase-rebased.ensures c.add_record.ensures
    (λ zero. refusal-not-0 refusal (sym (ap number_of c.in_err-add_record.was) ∙ zero)))
