-- No table, one pointer an entry in a row inside, or entry by entry: `table_none`, `one_pointer`, `table_starts`.
use Rattle.std.proofs.Common.{◌*◌, length, sym, ap, ◌∙◌, rules}
use Rattle.window.specs.Row.{row_stands}
use Rattle.window.specs.TraceRuns.{left}
use Rattle.layout.proofs.Laws.{product_fits}
use Rattle.linker.proofs.rebase.Laws.{table_none, table_starts}
use Rattle.linker.proofs.rebase.Pointers.{within_first, one_pointer}
use Rattle.linker.proofs.rebase.tables.move_table.Goals as goal

pub returns-then-table-eq0 : goal.returns-then-table-eq0
returns-then-table-eq0 c =
    let a = c.args in
    table_none a.at a.forward a.base (a.w.now, a.trace.now) a.t c.field-table.ensures c.field-count.ensures c.if-table-eq0.true

pub overflow_mul-bytes : goal.overflow_mul-bytes
overflow_mul-bytes c = record { fits = product_fits (search rules) (search rules) }

pub move_single-requires : goal.move_single-requires
move_single-requires c =
    let a = c.args in
    let stands = row_stands a.at (length a.w.now) c.field-table.result (c.field-count.result * a.t.entry_size) (sym c.row_of.ensures ∙ c.in-Some.is) in
    (within_first a.t (sym c.pointers_within.ensures ∙ c.if-pointers_within.true), stands.1, stands.2)

pub returns-in-Some : goal.returns-in-Some
returns-in-Some c =
    let a = c.args in
    one_pointer a.at a.forward a.base a.t c.field-table.result c.field-count.result _ c.if-t-eq1.true
    (c.move_single.ensures a.at c.field-table.result c.field-count.new.trace
    (row_stands a.at (length a.w.now) c.field-table.result (c.field-count.result * a.t.entry_size) (sym c.row_of.ensures ∙ c.in-Some.is)).0)
    ∙ ap left (table_starts a.at a.forward a.base (a.w.now, a.trace.now) a.t c.field-table.ensures c.field-count.ensures c.if-table-eq0.false)

pub returns : goal.returns
returns c =
    let a = c.args in
    c.move_entries.ensures
    ∙ ap left (table_starts a.at a.forward a.base (a.w.now, a.trace.now) a.t c.field-table.ensures c.field-count.ensures c.if-table-eq0.false)
