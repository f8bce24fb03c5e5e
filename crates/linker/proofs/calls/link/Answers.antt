-- Five steps, one after another: `links`.
use Rattle.linker.specs.Calls.Linked.{still_encoded, still_sorted, links}
use Rattle.linker.proofs.calls.link.Goals as goal

pub apply_module_imports-requires : goal.apply_module_imports-requires
apply_module_imports-requires c =
    let a = c.args in
    still_encoded a.at a.records.now a.names.now a.missing.now a.given a.auto_link a.fix_level (a.w.now, a.trace.now) c.list.ensures _ _
    c.apply_import_named_symbols.ensures

pub apply_exports_to_loaded-requires : goal.apply_exports_to_loaded-requires
apply_exports_to_loaded-requires c =
    let a = c.args in record {
      encoded = still_encoded a.at a.records.now a.names.now a.missing.now a.given a.auto_link a.fix_level (a.w.now, a.trace.now) c.list.ensures _ _
          c.apply_import_named_symbols.ensures;
      sorted = still_sorted a.at a.records.now a.names.now a.missing.now a.given a.auto_link a.fix_level (a.w.now, a.trace.now) c.list.ensures _ _
          c.apply_import_named_symbols.ensures c.requires.last_record;
    }

pub returns : goal.returns
returns c =
    let a = c.args in
    links a.at a.records.now a.names.now a.missing.now a.given a.auto_link a.fix_level (a.w.now, a.trace.now) c.list.ensures _ _
    c.apply_import_named_symbols.ensures c.apply_module_imports.ensures a.place c.apply_exports_to_loaded.ensures c.fix.ensures
