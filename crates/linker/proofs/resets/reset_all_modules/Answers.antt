-- The turns at the entries, `for_each_entry`, after the table's place and count, `modules_start`.
use Rattle.std.proofs.Common.{ap, ◌∙◌, rules}
use Rattle.register.specs.Read.Read.{module_at}
use Rattle.linker_spec.specs.Resets.{reset_module}
use Rattle.window.specs.TraceRuns.{left}
use Rattle.linker.proofs.resets.Laws.{modules_start, module_idle}
use Rattle.linker.proofs.resets.reset_all_modules.Goals as goal

pub returns : goal.returns
returns c =
    let a = c.args in
    let m = module_at a.records.now a.names.now a.place in
    c.for_each_entry.ensures (reset_module m a.base a.handler) (module_idle a.at a.base a.handler m) (λ w trace entry w' trace' small call. search rules)
    ∙ ap left (modules_start a.at a.base a.handler (a.w.now, a.trace.now) m c.field-table.ensures c.field-count.ensures)
