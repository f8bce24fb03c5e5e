-- By whether a module has the base: `unload_none`, `unload-done`.
use Rattle.linker_spec.specs.Outcome.{buffers}
use Rattle.linker.proofs.calls.Calls.{unload_none, unload_stands, unload_sorted, unload-done}
use Rattle.linker.proofs.calls.unload.Goals as goal

pub first_with_base-requires : goal.first_with_base-requires
first_with_base-requires c = (_, (_, c.requires))

pub returns-in_default : goal.returns-in_default
returns-in_default c =
    let a = c.args in
    let b = buffers a.w.now a.records.now a.names.now a.missing.now in
    unload_none a.at a.base b a.trace.now c.requires c.first_with_base.ensures c.in_default.is

pub reset_importers-requires : goal.reset_importers-requires
reset_importers-requires c =
    let a = c.args in
    let b = buffers a.w.now a.records.now a.names.now a.missing.now in record {
      encoded = (_, c.requires);
      sorted = unload_sorted a.at a.base b a.trace.now c.requires c.first_with_base.ensures _ c.in-Some.is;
    }

pub remove_record-requires : goal.remove_record-requires
remove_record-requires c =
    let a = c.args in
    let b = buffers a.w.now a.records.now a.names.now a.missing.now in
    unload_stands a.at a.base b a.trace.now c.requires c.first_with_base.ensures _ c.in-Some.is

pub returns : goal.returns
returns c =
    let a = c.args in
    let b = buffers a.w.now a.records.now a.names.now a.missing.now in
    unload-done a.at a.base b a.trace.now c.requires c.first_with_base.ensures _ c.in-Some.is
    c.reset_importers.ensures c.unlist.ensures c.unrebase.ensures c.remove_record.ensures
