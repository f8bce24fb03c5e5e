use Rattle.std.proofs.Common.{arith}
use Rattle.register.proofs.exports.Laws.{search_starts, search_inside, search_none, search_below, search_above, search_found}
use Rattle.register.proofs.exports.search_export.Goals as goal

pub loop-low-init : goal.loop-low-init
loop-low-init c = search_starts _ _ _

pub export_name-requires : goal.export_name-requires
export_name-requires c = omega (arith, search_inside _ _ _ c.loop-low.invariant)

pub loop-low-preserved-in-Less : goal.loop-low-preserved-in-Less
loop-low-preserved-in-Less c =
    search_below _ _ _ c.loop-low.invariant c.requires _ _ (omega arith) (omega arith)
    c.export_name.ensures c.compare_names.ensures c.in-Less.is

pub returns-in-Equal : goal.returns-in-Equal
returns-in-Equal c =
    search_found _ _ _ c.loop-low.invariant c.requires _ _ (omega arith) (omega arith)
    c.export_name.ensures c.compare_names.ensures c.in-Equal.is

pub loop-low-preserved : goal.loop-low-preserved
loop-low-preserved c =
    search_above _ _ _ c.loop-low.invariant c.requires _ _ (omega arith) (omega arith)
    c.export_name.ensures c.compare_names.ensures c.in-Greater.is

pub returns : goal.returns
returns c = search_none _ _ _ c.loop-low.invariant c.requires (omega arith)
