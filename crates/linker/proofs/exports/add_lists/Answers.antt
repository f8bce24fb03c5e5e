use Rattle.linker.specs.Exports.Modules.{no_segments_in, no_named_in, lists_in}
use Rattle.linker.proofs.exports.add_lists.Goals as goal

pub returns-in_err-first : goal.returns-in_err-first
returns-in_err-first c =
    rw c.from_residual.ensures (no_segments_in _ _ _ _ _ _ _ _ _ c.add_segments.ensures c.in_err-first.was)

pub returns-in_err-second : goal.returns-in_err-second
returns-in_err-second c =
    rw c.from_residual-in_err-second.ensures
    (no_named_in _ _ _ _ _ _ _ _ _ c.add_segments.ensures _ c.in_ok-first.was _ _ _
    c.add_all_named.ensures c.in_err-second.was)

pub returns : goal.returns
returns c =
    lists_in _ _ _ _ _ _ _ _ _ c.add_segments.ensures _ c.in_ok-first.was _ _ _
    c.add_all_named.ensures _ c.in_ok-second.was _ _ _ c.add_all_indexed.ensures
