-- The turns at the entries, `for_each_entry`, after the table's place and count, `external_starts`.
use Rattle.std.proofs.Common.{ap, ◌∙◌, rules}
use Rattle.linker_spec.specs.Relocation.{reset_entry}
use Rattle.window.specs.TraceRuns.{left}
use Rattle.linker.proofs.relocation.Laws.{external_starts, external_idle}
use Rattle.linker.proofs.relocation.reset_external_relocations.Goals as goal

pub returns : goal.returns
returns c =
    let a = c.args in
    let handler = c.unresolved_symbol-handler.result in
    c.for_each_entry.ensures (reset_entry a.base handler) (external_idle a.at a.base handler) (λ w trace entry w' trace' small call. search rules)
    ∙ ap left (external_starts a.at a.base (a.w.now, a.trace.now) c.unresolved_symbol-handler.ensures c.field-table.ensures c.field-count.ensures)
