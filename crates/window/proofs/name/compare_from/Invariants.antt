-- The invariant: what is left of the two names from place i on stands in the same order as what is left from the first place on.
use Rattle.std.proofs.Common.{◌≡◌, drop}
use Rattle.window.specs.Name.{order_of}
use Rattle.window.proofs.name.compare_from.Given as goal

abbrev pub invariant-loop-i : goal.invariant-loop-i
invariant-loop-i l = order_of (drop l.i l.a) (drop l.i l.b) ≡ order_of (drop l.from l.a) (drop l.from l.b)
