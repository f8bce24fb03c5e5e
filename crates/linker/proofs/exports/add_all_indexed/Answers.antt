use Rattle.std.proofs.Common.{◌≡◌, ◌+◌, ◌∙◌, arith}
use Rattle.layout.specs.Header.{export_indexed_symbol_table_offset}
use Rattle.layout.specs.Segments.{field-word}
use Rattle.linker.specs.Exports.Modules.{AnyModule}
use Rattle.linker.proofs.exports.Laws.{turn_open, turn_full, WithIndexedTo, indexed_to_lem, indexed_too_many, indexed_done}
use Rattle.linker.proofs.exports.add_all_indexed.Goals as goal

pub returns-then-not-has_words : goal.returns-then-not-has_words
returns-then-not-has_words c =
    let a = c.args in
    indexed_done a.at a.w.now a.base _ _ _ _ _ _ _ c.field-count.ensures
    (indexed_too_many a.at a.w.now a.base c.field-count.result a.before a.records.now a.names.now _ _
    c.has_words.ensures c.if-not-has_words.true c.give_up.ensures)

pub returns-in_err-last : goal.returns-in_err-last
returns-in_err-last c =
    let a = c.args in
    let l = c.loop-i in
    rw c.from_residual.ensures
    (indexed_done a.at a.w.now a.base _ _ _ _ _ _ _ c.field-count.ensures
    (turn_full AnyModule (WithIndexedTo a.at a.w.now a.base) _ _ _ _ _ _ l.i l.invariant.2 _ _ _
    (c.add_indexed.ensures
    (c.field-table.ensures ∙ field-word a.at a.base export_indexed_symbol_table_offset a.w.now)) _
    (indexed_to_lem a.at a.w.now a.base (l.i + 1) _ (omega (arith, c.loop-i-test.true))) c.in_err-last.was))

pub loop-i-preserved : goal.loop-i-preserved
loop-i-preserved c =
    let a = c.args in
    let l = c.loop-i in (
      c.add_indexed.auto.records ∙ l.invariant.0,
      c.add_indexed.auto.names ∙ l.invariant.1,
      turn_open AnyModule (WithIndexedTo a.at a.w.now a.base) _ _ _ _ _ _ l.i l.invariant.2 _ _ _
          (c.add_indexed.ensures
          (c.field-table.ensures ∙ field-word a.at a.base export_indexed_symbol_table_offset a.w.now)) _ c.in_ok-last.was,
    )

pub returns : goal.returns
returns c =
    let a = c.args in
    let l = c.loop-i in
    indexed_done a.at a.w.now a.base l.i _ _ _ _ _ _
    (let e : l.i ≡ c.field-count.result = omega (arith, c.loop-i-test.false) in e ∙ c.field-count.ensures)
    l.invariant.2
