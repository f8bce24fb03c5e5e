-- The invariant: what is left of the two names from the next word on stands in the same order as the names.
use Rattle.std.proofs.Common.{◌≡◌, ◌*◌, drop}
use Rattle.window.specs.Name.{order_of, ended}
use Rattle.window.proofs.name_rows.rows_alike.Given as goal

abbrev pub invariant-loop-k : goal.invariant-loop-k
invariant-loop-k l = order_of (ended (drop (4 * l.k) l.a)) (ended (drop (4 * l.k) l.b)) ≡ order_of (ended l.a) (ended l.b)
