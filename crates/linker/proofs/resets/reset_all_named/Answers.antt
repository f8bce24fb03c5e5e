-- The turns at the entries, `for_each_entry`, after the table's place and count, `named_start`.
use Rattle.std.proofs.Common.{ap, ◌∙◌, rules}
use Rattle.register.specs.Read.Read.{module_at}
use Rattle.linker_spec.specs.Resets.{reset_named}
use Rattle.window.specs.TraceRuns.{left}
use Rattle.linker.proofs.resets.Laws.{named_start, named-idle}
use Rattle.linker.proofs.resets.reset_all_named.Goals as goal

pub returns : goal.returns
returns c =
    let a = c.args in
    let m = module_at a.records.now a.names.now a.place in
    c.for_each_entry.ensures (reset_named m a.base a.handler) (named-idle a.at a.base a.handler m) (λ w trace entry w' trace' small call. search rules)
    ∙ ap left (named_start a.at a.base a.handler (a.w.now, a.trace.now) m c.field-table.ensures c.field-count.ensures)
