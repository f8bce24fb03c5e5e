use Rattle.std.proofs.Common.{arith}
use Rattle.linker.specs.Exports.Sorted.{no_left, no_right, in_order, two_ascend, merging_starts}
use Rattle.linker.proofs.sorted.merge.Goals as goal

pub returns-then-left-eq0 : goal.returns-then-left-eq0
returns-then-left-eq0 c = (omega arith, λ before after a b. no_left _ _ _ _ a b (omega arith) c.if-left-eq0.true)

pub returns-then-right-eq0 : goal.returns-then-right-eq0
returns-then-right-eq0 c = (omega arith, λ before after a b. no_right _ _ _ _ a b (omega arith) c.if-right-eq0.true)

pub returns-in-Less : goal.returns-in-Less
returns-in-Less c = (
  omega arith,
  λ before after a b. in_order _ _ _ _ a b (omega arith) _ _ (omega arith) (omega arith) c.word-last.ensures c.word-first.ensures
      c.compare_names_at.ensures c.in-Less.is,
)

pub returns : goal.returns
returns c =
    let l = c.args in (
      c.merge_runs.ensures.0,
      λ before after a b. c.merge_runs.ensures.1 _ (two_ascend l.at l.w.now _ _ a b (omega arith)) (merging_starts l.at l.w.now _ _ a b (omega arith) (omega arith) c.copy_within.ensures),
    )
