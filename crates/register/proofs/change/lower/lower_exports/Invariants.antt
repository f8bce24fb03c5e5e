use Rattle.std.proofs.Common.{◌≡◌, ◌+◌, ◌-◌, ◌*◌, length}
use Rattle.register.specs.Change.Bytes.{lower_exports}
use Rattle.register.proofs.change.lower.lower_exports.Given as goal

abbrev pub invariant-loop-k : goal.invariant-loop-k
invariant-loop-k l =
    (length l.bytes ≡ length l.initial.bytes)
    × (lower_exports (l.count - l.k) l.bytes (l.place + 12 * l.k) l.d ≡ lower_exports l.count l.initial.bytes l.place l.d)
