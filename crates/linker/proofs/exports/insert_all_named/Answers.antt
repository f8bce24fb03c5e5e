use Rattle.std.proofs.Common.{◌≡◌, refl, ◌∙◌, arith}
use Rattle.window.specs.Outside.{stride_goes}
use Rattle.layout.specs.Header.{export_named_symbol_table_offset}
use Rattle.layout.specs.Segments.{field-word}
use Rattle.linker.proofs.exports.Laws.{gathered-first, gathered-turn, gathered-past, gathered-given_up, gathered-last}
use Rattle.linker.proofs.waiting.Laws.{ends_open, ends_full, open_ends}
use Rattle.linker.proofs.exports.insert_all_named.Goals as goal

pub loop-i-init : goal.loop-i-init
loop-i-init c = (refl, refl, omega arith, omega arith, c.requires.0, c.requires.1, gathered-first _ _ _ _ _ _)

pub returns-in-None : goal.returns-in-None
returns-in-None c =
    let a = c.args in let l = c.loop-i in (
      ends_full _ _,
      gathered-given_up a.at a.w.now a.base a.first l.last _ _ l.records l.names l.i l.invariant.6 _ _
          (c.gather_named.ensures.1 (c.field-table.ensures ∙ field-word a.at a.base export_named_symbol_table_offset a.w.now))
          _ (omega (arith, c.loop-i-test.true)) c.field-count.ensures c.in-None.is c.give_up.ensures,
    )

pub overflow_add-i : goal.overflow_add-i
overflow_add-i c = omega (arith, stride_goes _ _ _ _ _ c.stride-i.ensures (omega arith))

pub loop-i-smaller : goal.loop-i-smaller
loop-i-smaller c = omega (arith, stride_goes _ _ _ _ _ c.stride-i.ensures (omega arith))

pub loop-i-preserved : goal.loop-i-preserved
loop-i-preserved c =
    let a = c.args in let l = c.loop-i in
    let table = c.field-table.ensures in
    let e = open_ends _ _ _ _ c.gather_named.ensures.0 c.in-Some.is in (
      c.gather_named.auto.records ∙ l.invariant.0,
      l.invariant.1,
      omega (arith, stride_goes _ _ _ _ _ c.stride-i.ensures (omega (arith, c.loop-i-test.true))),
      e.0,
      e.1,
      e.2,
      gathered-past a.at a.w.now a.base a.first _ _ _ _ _ l.i _ table c.entry_address-entry.ensures c.stride-i.ensures
          (omega (arith, c.loop-i-test.true))
          (gathered-turn a.at a.w.now a.base a.first l.last _ _ l.records l.names l.i l.invariant.6 _ _
          (c.gather_named.ensures.1 (table ∙ field-word a.at a.base export_named_symbol_table_offset a.w.now))
          _ c.in-Some.is),
    )

pub returns : goal.returns
returns c =
    let a = c.args in let l = c.loop-i in (
      ends_open _ _ _ l.invariant.3 l.invariant.4 l.invariant.5,
      gathered-last a.at a.w.now a.base a.first l.last _ _ _ _ l.i
          (let e : l.i ≡ c.field-count.result = omega (arith, l.invariant.2, c.loop-i-test.false) in e ∙ c.field-count.ensures) l.invariant.6,
    )
