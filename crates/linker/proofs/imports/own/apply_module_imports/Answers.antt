-- The turns at the entries, `for_each_entry`, after the table's place and count, `table_starts`.
use Rattle.std.proofs.Common.{ap, ◌∙◌, rules}
use Rattle.layout.specs.Header.{import_module_table_offset, import_module_num, import_module_entry_size}
use Rattle.layout.specs.Segments.{entry_at}
use Rattle.register.specs.Read.Read.{modules_of}
use Rattle.linker_spec.specs.Imports.{import_module, apply_module_imports}
use Rattle.window.specs.TraceRuns.{left}
use Rattle.linker.proofs.imports.Laws.{table_starts, import_module-idle}
use Rattle.linker.proofs.imports.own.apply_module_imports.Goals as goal

pub returns : goal.returns
unfolding apply_module_imports
returns c =
    let a = c.args in
    let ms = modules_of a.records.now a.names.now in
    c.for_each_entry.ensures (import_module ms a.base) (import_module-idle a.at a.base ms) (λ w trace entry w' trace' small call. search rules)
    ∙ ap left
    (table_starts a.at a.base import_module_table_offset import_module_num (λ table i _. import_module ms a.base (entry_at table i import_module_entry_size)) tt
    (a.w.now, a.trace.now) c.field-table.ensures c.field-count.ensures)
