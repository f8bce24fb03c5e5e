-- The turns at the entries, `for_each_entry`, after the table's place and count, `internal_starts`.
use Rattle.std.proofs.Common.{ap, ◌∙◌, rules}
use Rattle.linker_spec.specs.Relocation.{apply_internal_relocation}
use Rattle.window.specs.TraceRuns.{left}
use Rattle.linker.proofs.internal.Laws.{internal_starts, internal_idle}
use Rattle.linker.proofs.internal.apply_internal_relocations.Goals as goal

pub returns : goal.returns
returns c =
    let a = c.args in
    c.for_each_entry.ensures (apply_internal_relocation a.base a.old) (internal_idle a.at a.base a.old) (λ w trace entry w' trace' small call. search rules)
    ∙ ap left (internal_starts a.at a.base a.old (a.w.now, a.trace.now) c.field-table.ensures c.field-count.ensures)
