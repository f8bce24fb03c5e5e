use Rattle.std.proofs.Common.{◌-◌}
use Rattle.register.proofs.exports.Laws.{Searched}
use Rattle.register.proofs.exports.search_export.Given as goal

abbrev pub invariant-loop-low : goal.invariant-loop-low
invariant-loop-low l = Searched l.exports l.names l.name l.low l.high

abbrev pub decreases-loop-low : goal.decreases-loop-low
decreases-loop-low l = l.high - l.low
