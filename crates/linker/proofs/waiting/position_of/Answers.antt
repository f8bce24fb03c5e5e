use Rattle.std.proofs.Common.{arith}
use Rattle.linker.specs.Exports.Waiting.{Inside}
use Rattle.linker.proofs.waiting.Laws.{search_starts, search_none, search_below, search_above, search_found}
use Rattle.linker.proofs.waiting.position_of.Goals as goal

pub loop-low-init : goal.loop-low-init
loop-low-init c = (omega arith, omega arith, search_starts _ _ _ _)

pub loop-low-preserved-in-Less : goal.loop-low-preserved-in-Less
loop-low-preserved-in-Less c = (
  omega arith,
  omega arith,
  search_below _ _ _ _ c.loop-low.invariant.2 _ (omega arith) (omega arith) c.loop-low.invariant.1 c.word-place.ensures
      c.compare_name_at.ensures c.in-Less.is,
)

pub returns-in-Equal : goal.returns-in-Equal
unfolding Inside
returns-in-Equal c = (
  omega arith,
  search_found _ _ _ _ c.loop-low.invariant.2 _ (omega arith) (omega arith) c.loop-low.invariant.1 c.word-place.ensures
      c.compare_name_at.ensures c.in-Equal.is,
)

pub loop-low-preserved : goal.loop-low-preserved
loop-low-preserved c = (
  omega arith,
  omega arith,
  search_above _ _ _ _ c.loop-low.invariant.2 _ (omega arith) (omega arith) c.loop-low.invariant.1 c.word-place.ensures
      c.compare_name_at.ensures c.in-Greater.is,
)

pub returns : goal.returns
unfolding Inside
returns c = (omega arith, search_none _ _ _ _ c.loop-low.invariant.2 (omega arith))
