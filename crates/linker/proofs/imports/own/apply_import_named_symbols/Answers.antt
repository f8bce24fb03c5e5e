-- A counted loop over the table, the missing names handed on: `table_starts`, `reached_starts`, `reached_next`, `reached_past`, `reached_over`.
use Rattle.std.proofs.Common.{◌≡◌, ◌-◌, refl, ◌∙◌, arith}
use Rattle.window.specs.Outside.{silent_goes}
use Rattle.layout.specs.Header.{import_named_symbol_table_offset, import_named_symbol_num}
use Rattle.register.specs.Decode.{register_of}
use Rattle.linker_spec.specs.Imports.{apply_import_named_symbols}
use Rattle.linker.proofs.imports.Laws.{table_starts}
use Rattle.linker.proofs.imports.Missing.{turn, reached_starts, reached_next, reached_past, reached_over}
use Rattle.linker.proofs.imports.own.apply_import_named_symbols.Goals as goal

pub loop-index-init : goal.loop-index-init
loop-index-init c =
    let a = c.args in (
      omega arith,
      refl,
      refl,
      refl,
      reached_starts a.at a.base c.field-table.result c.field-count.result a.records.now a.names.now a.missing.now
          (a.w.now, c.field-count.new.trace) (λ i. omega (arith, c.type_inv.records i)) c.requires,
      refl,
    )

pub overflow_add-index : goal.overflow_add-index
overflow_add-index c = omega (arith, silent_goes _ _ _ _ _ _ c.silent_stride-index.ensures (omega arith))

pub loop-index-smaller : goal.loop-index-smaller
loop-index-smaller c = omega (arith, silent_goes _ _ _ _ _ _ c.silent_stride-index.ensures (omega arith))

pub loop-index-preserved : goal.loop-index-preserved
loop-index-preserved c =
    let a = c.args in
    let r = register_of a.records.now a.names.now a.missing.now in (
      omega (arith, silent_goes _ _ _ _ _ _ c.silent_stride-index.ensures (omega arith)),
      c.import_named.auto.w ∙ c.loop-index.invariant.1,
      c.import_named.auto.records ∙ c.loop-index.invariant.2,
      c.import_named.auto.missing ∙ c.loop-index.invariant.3,
      reached_past a.at a.base c.field-table.result r a.records.now _ a.names.now _ c.loop-index.index c.field-count.result _ _ _
          (reached_next a.at a.base c.field-table.result r a.records.now c.loop-index.records a.names.now c.loop-index.missing
          c.loop-index.index c.field-count.result (c.loop-index.w, c.loop-index.trace) _ c.loop-index.invariant.4 _ _ c.loop-index-test.true c.entry_address-entry.ensures
          c.import_named.ensures)
          c.loop-index-test.true c.entry_address-entry.ensures c.silent_stride-index.ensures,
      c.import_named.auto.trace ∙ c.loop-index.invariant.5,
    )

pub returns : goal.returns
unfolding apply_import_named_symbols
returns c =
    let a = c.args in
    let r = register_of a.records.now a.names.now a.missing.now in
    let all : c.field-count.result - 0 ≡ c.field-count.result = omega arith in
    reached_over a.at a.base c.field-table.result r a.records.now c.loop-index.records a.names.now c.loop-index.missing
    c.loop-index.index c.field-count.result (c.loop-index.w, c.loop-index.trace) _ c.loop-index.invariant.4 c.loop-index-test.false
    (rw all (table_starts a.at a.base import_named_symbol_table_offset import_named_symbol_num (λ table. turn a.at a.base table r) r.missing
    (a.w.now, a.trace.now) c.field-table.ensures c.field-count.ensures))
