-- The invariant: the digits of the rest, and after them those that are written, are the digits of v.
use Prim.Native.Nat.{◌+◌, ◌^◌, ◌≤◌, ◌<◌}
use mathlib.Core.Path.{◌≡◌}
use mathlib.Core.List.{◌++◌}
use lib.ListN.{length, drop}
use Rattle.text.specs.Text.{digits_in}
use Rattle.text.proofs.Text.put_number.Given as goal

abbrev pub invariant-loop-rest : goal.invariant-loop-rest
invariant-loop-rest l =
    (l.i ≤ 9)
    × (l.rest < l.radix ^ (l.i + 1))
    × (length l.digits ≡ 10)
    × (digits_in l.radix (l.i + 1) l.rest ++ drop (l.i + 1) l.digits ≡ digits_in l.radix 10 l.v)

abbrev pub decreases-loop-rest : goal.decreases-loop-rest
decreases-loop-rest l = l.i
