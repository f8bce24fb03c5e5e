use Rattle.std.proofs.Common.{[], arith}
use Rattle.layout.specs.Header.{export_named_symbol_table_offset, export_named_symbol_num}
use Rattle.linker_spec.specs.Exports.{named_export, named_exports}
use Rattle.linker.proofs.touches.Laws.{none_touched, turn_touched, turns_touched, touch_kept, named_entry, named_reads, table_touched}
use Rattle.linker.proofs.touches.touch_named.Goals as goal

pub loop-i-init : goal.loop-i-init
loop-i-init c =
    let a = c.args in
    let t = c.field-table.result in
    (omega arith, none_touched a.at (named_export a.base) (named_entry t) _ _ [])

pub returns-then-said : goal.returns-then-said
unfolding named_exports
returns-then-said c =
    let a = c.args in
    let l = c.loop-i in
    let t = c.field-table.result in
    table_touched a.at a.base export_named_symbol_table_offset export_named_symbol_num _ (a.w.now, a.trace.now)
    c.field-table.ensures c.field-count.ensures
    (touch_kept a.at (named_export a.base) (named_entry t) _ _ (a.w.now, l.trace) l.invariant.1
    (named_reads a.base) c.said.ensures c.if-said.true)

pub loop-i-preserved : goal.loop-i-preserved
loop-i-preserved c =
    let a = c.args in
    let l = c.loop-i in
    let t = c.field-table.result in
    let touched = turn_touched a.at (named_export a.base) (named_entry t) _ _ (a.w.now, l.trace) l.invariant.1
    c.loop-i-test.true c.entry_address-entry.ensures c.touch_named_export.ensures in
    (omega arith, touched)

pub returns : goal.returns
unfolding named_exports
returns c =
    let a = c.args in
    let l = c.loop-i in
    let t = c.field-table.result in
    table_touched a.at a.base export_named_symbol_table_offset export_named_symbol_num _ (a.w.now, a.trace.now)
    c.field-table.ensures c.field-count.ensures
    (turns_touched a.at (named_export a.base) (named_entry t) _ _ (a.w.now, l.trace) l.invariant.1 c.loop-i-test.false)
