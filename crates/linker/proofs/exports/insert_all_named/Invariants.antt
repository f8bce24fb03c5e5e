use Rattle.std.proofs.Common.{◌≡◌, ◌-◌, ◌^◌, ◌<◌, ◌≤◌, length}
use Rattle.register.specs.Append.Draft.{room_in}
use Rattle.linker.proofs.exports.Laws.{GatheredTo}
use Rattle.linker.proofs.exports.insert_all_named.Given as goal

abbrev pub invariant-loop-i : goal.invariant-loop-i
invariant-loop-i l =
    (length l.records ≡ length l.initial.records)
    × (length l.names ≡ length l.initial.names)
    × (l.i ≤ l.count)
    × (l.first.end ≤ l.last.end)
    × (l.last.end ≤ room_in (length l.records))
    × (l.last.last < 2 ^ 32)
    × GatheredTo l.at l.w l.base l.i l.first l.last l.initial.records l.initial.names l.records l.names

abbrev pub decreases-loop-i : goal.decreases-loop-i
decreases-loop-i l = l.count - l.i
