-- The invariant: what is left of the two names from the next word on stands in the same order as the names.
use Rattle.std.proofs.Common.{◌≡◌, ◌*◌, drop}
use Rattle.window.specs.Name.{order_of}
use Rattle.window.proofs.name.alike.Given as goal

abbrev pub invariant-loop-k : goal.invariant-loop-k
invariant-loop-k l = order_of (drop (4 * l.k) l.a) (drop (4 * l.k) l.b) ≡ order_of l.a l.b
