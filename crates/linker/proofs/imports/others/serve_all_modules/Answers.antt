-- The turns at the entries, `for_each_entry`, after the table's place and count, `table_starts`.
use Rattle.std.proofs.Common.{ap, ◌∙◌, rules}
use Rattle.layout.specs.Header.{import_module_table_offset, import_module_num, import_module_entry_size}
use Rattle.layout.specs.Segments.{entry_at}
use Rattle.register.specs.Read.Read.{module_at}
use Rattle.linker_spec.specs.Imports.{serve_module}
use Rattle.window.specs.TraceRuns.{left}
use Rattle.linker.specs.Imports.Served.{serve_all_modules}
use Rattle.linker.proofs.imports.Laws.{table_starts, serve_module-idle}
use Rattle.linker.proofs.imports.others.serve_all_modules.Goals as goal

pub returns : goal.returns
unfolding serve_all_modules
returns c =
    let a = c.args in
    let m = module_at a.records.now a.names.now a.place in
    c.for_each_entry.ensures (serve_module m a.base) (serve_module-idle a.at a.base m) (λ w trace entry w' trace' small call. search rules)
    ∙ ap left
    (table_starts a.at a.base import_module_table_offset import_module_num (λ table i _. serve_module m a.base (entry_at table i import_module_entry_size)) tt
    (a.w.now, a.trace.now) c.field-table.ensures c.field-count.ensures)
