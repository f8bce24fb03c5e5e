-- The rows of the flat table in turn: `tables-turn`, `tables-over`.
use Rattle.std.proofs.Common.{refl, ◌∙◌, arith}
use Rattle.linker.proofs.rebase.Laws.{tables-turn, tables-over}
use Rattle.linker.proofs.rebase.tables.move_tables.Goals as goal

pub loop-i-init : goal.loop-i-init
loop-i-init c = (omega arith, refl, refl, refl)

pub loop-i-preserved : goal.loop-i-preserved
loop-i-preserved c =
    let a = c.args in (
      omega arith,
      c.move_table.auto.w ∙ c.loop-i.invariant.1,
      tables-turn a.at a.forward a.base c.loop-i.i (c.loop-i.w, c.loop-i.trace) c.loop-i.invariant.2 c.loop-i-test.true
          c.pointer_table.ensures c.move_table.ensures,
      c.move_table.auto.trace ∙ c.loop-i.invariant.3,
    )

pub returns : goal.returns
returns c =
    let a = c.args in
    tables-over a.at a.forward a.base c.loop-i.i (c.loop-i.w, c.loop-i.trace) c.loop-i.invariant.2 c.loop-i-test.false
