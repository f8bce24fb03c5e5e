use Rattle.std.proofs.Common.{◌∙◌}
use Rattle.writer_spec.specs.Description.{file_of, table_at}
use Rattle.writer.proofs.strings.Laws.{name-passed, name-refused, names_end_lem}
use Rattle.writer.proofs.strings.strings_after.Goals as goal

pub returns-in_err-pos : goal.returns-in_err-pos
returns-in_err-pos c =
    let a = c.args in
    let l = c.loop-i in
    c.from_residual.ensures
    ∙ (name-refused (file_of a.bytes.now) (table_at a.table.field a.table.width) _ l.i l.pos c.loop-i-test.true c.entry_word.ensures
    c.string_after.ensures c.in_err-pos.was ∙ l.invariant)

pub loop-i-preserved : goal.loop-i-preserved
loop-i-preserved c =
    let a = c.args in
    let l = c.loop-i in
    name-passed (file_of a.bytes.now) (table_at a.table.field a.table.width) _ l.i l.pos _ c.loop-i-test.true c.entry_word.ensures
    c.string_after.ensures c.in_ok-pos.was ∙ l.invariant

pub returns : goal.returns
returns c =
    let a = c.args in
    let l = c.loop-i in
    names_end_lem (file_of a.bytes.now) (table_at a.table.field a.table.width) _ l.i l.pos c.loop-i-test.false ∙ l.invariant
