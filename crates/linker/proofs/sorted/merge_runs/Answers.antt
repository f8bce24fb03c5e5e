use Rattle.std.proofs.Common.{◌∙◌, arith}
use Rattle.linker.specs.Exports.Sorted.{merging_same, merging_left, merging_right, merged_left, merged_right, merged_there}
use Rattle.linker.proofs.sorted.merge_runs.Goals as goal

pub returns-then-n-j : goal.returns-then-n-j
returns-then-n-j c =
    let l = c.loop-i in
    (omega arith, λ all up m. merged_left _ _ (l.invariant.5 all up m) up c.if-n-j.true (omega arith) c.copy_within.ensures)

pub loop-i-preserved-in-Less : goal.loop-i-preserved-in-Less
loop-i-preserved-in-Less c =
    let l = c.loop-i in (
      omega arith,
      omega arith,
      omega arith,
      omega arith,
      c.lay.auto.items ∙ l.invariant.4,
      λ all up m. merging_left _ _ (l.invariant.5 all up m) c.loop-i-test.true c.if-n-j.false _ _ c.word-x.ensures c.word-y.ensures
          c.compare_names_at.ensures _ c.word-address.type_inv c.word-x.type_inv (omega arith) (omega arith) c.word-address.ensures c.in-Less.is c.lay.ensures,
    )

pub loop-i-preserved-in-Equal : goal.loop-i-preserved-in-Equal
loop-i-preserved-in-Equal c =
    let l = c.loop-i in (
      omega arith,
      omega arith,
      omega arith,
      omega arith,
      l.invariant.4,
      λ all up m. merging_same _ _ (l.invariant.5 all up m) c.loop-i-test.true c.if-n-j.false _ _ c.word-x.ensures c.word-y.ensures
          c.compare_names_at.ensures c.in-Equal.is,
    )

pub loop-i-preserved : goal.loop-i-preserved
loop-i-preserved c =
    let l = c.loop-i in (
      omega arith,
      omega arith,
      omega arith,
      omega arith,
      c.lay-in-Greater.auto.items ∙ l.invariant.4,
      λ all up m. merging_right _ _ (l.invariant.5 all up m) c.loop-i-test.true c.if-n-j.false _ _ c.word-x.ensures c.word-y.ensures
          c.compare_names_at.ensures _ c.word-address-in-Greater.type_inv c.word-y.type_inv (omega arith) (omega arith) c.word-address-in-Greater.ensures c.in-Greater.is c.lay-in-Greater.ensures,
    )

pub returns-then-k-j : goal.returns-then-k-j
returns-then-k-j c =
    let l = c.loop-i in
    (omega arith, λ all up m. merged_right _ _ (l.invariant.5 all up m) up c.loop-i-test.false (omega arith) c.copy_within-then-k-j.ensures)

pub returns : goal.returns
returns c =
    let l = c.loop-i in
    (omega arith, λ all up m. merged_there _ _ (l.invariant.5 all up m) up c.loop-i-test.false (omega arith))
