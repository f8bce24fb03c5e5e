use Prim.Native.Nat.{◌-◌, ◌*◌}
use mathlib.Core.Path.{◌≡◌}
use lib.ListN.{drop}
use Rattle.register.specs.Check.{slots_ok}
use Rattle.register_test.proofs.slots_ok.Given as goal

abbrev pub invariant-loop-k : goal.invariant-loop-k
invariant-loop-k l =
    slots_ok (l.count - l.k) (drop (514 * l.k) l.missing) ≡ slots_ok l.count l.missing
