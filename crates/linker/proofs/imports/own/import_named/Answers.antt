-- By whether the batch waits, and whether an auto-linked module has the name.
use Rattle.std.proofs.Common.{arith}
use Rattle.window.specs.Trace.{run_t}
use Rattle.window.specs.Name.{name_at, name-fits, name_taken}
use Rattle.linker.proofs.imports.Missing.{own-passed, own-found, own_missing}
use Rattle.linker.proofs.imports.own.import_named.Goals as goal

pub slice_bounds-buffer-end : goal.slice_bounds-buffer-end
slice_bounds-buffer-end c =
    let a = c.args in
    name-fits (run_t a.at (name_at c.read32-address.result) (a.w.now, c.read32-address.new.trace)).0 _ c.read_name-n.ensures.0

pub slice_bounds-lookup-end : goal.slice_bounds-lookup-end
slice_bounds-lookup-end c =
    let a = c.args in
    name_taken (run_t a.at (name_at c.read32-address.result) (a.w.now, c.read32-address.new.trace)).0 _ c.read_name-n.ensures.0

pub slice_bounds-buffer-end-in-None : goal.slice_bounds-buffer-end-in-None
slice_bounds-buffer-end-in-None c =
    let a = c.args in
    name-fits (run_t a.at (name_at c.read32-address.result) (a.w.now, c.read32-address.new.trace)).0 _ c.read_name-n.ensures.0

pub slice_bounds-push_missing-end : goal.slice_bounds-push_missing-end
slice_bounds-push_missing-end c =
    let a = c.args in
    name_taken (run_t a.at (name_at c.read32-address.result) (a.w.now, c.read32-address.new.trace)).0 _ c.read_name-n.ensures.0

pub returns-in-Some : goal.returns-in-Some
returns-in-Some c =
    let a = c.args in
    own-found a.records.now a.names.now a.missing.now a.at a.base a.entry (a.w.now, a.trace.now)
    (λ i. omega (arith, c.slice_known-3-1.given i)) c.requires c.wrapping_add_u32.ensures.value c.read32-batch.ensures
    c.is_unresolved.ensures _ c.if-is_unresolved.true c.read32-address.ensures c.read_name-n.ensures c.lookup.ensures
    c.in-Some.is c.apply_relocation_batch.ensures

pub returns-in-None : goal.returns-in-None
returns-in-None c =
    let a = c.args in
    own_missing a.records.now a.names.now a.missing.now a.at a.base a.entry (a.w.now, a.trace.now)
    (λ i. omega (arith, c.slice_known-3-1.given i)) c.requires
    c.wrapping_add_u32.ensures.value
    c.read32-batch.ensures c.is_unresolved.ensures _ c.if-is_unresolved.true c.read32-address.ensures c.read_name-n.ensures c.lookup.ensures
    c.in-None.is c.push_missing.ensures

pub returns-else-is_unresolved : goal.returns-else-is_unresolved
returns-else-is_unresolved c =
    let a = c.args in
    own-passed a.records.now a.names.now a.missing.now a.at a.base a.entry (a.w.now, a.trace.now)
    (λ i. omega (arith, c.type_inv.records i)) c.requires c.wrapping_add_u32.ensures.value c.read32-batch.ensures
    c.is_unresolved.ensures c.if-is_unresolved.false
