use Prim.Native.Nat.{◌-◌, ◌%◌, ◌≤◌}
use mathlib.Core.Path.{◌≡◌}
use lib.ListN.{length, drop}
use Rattle.register.specs.Words.{words_in}
use Rattle.register.specs.Check.{modules_ok}
use Rattle.register_test.proofs.records.modules_ok.Given as goal

abbrev pub invariant-loop-k : goal.invariant-loop-k
invariant-loop-k l =
    (l.place % 4 ≡ 0)
    × (l.place ≤ length l.records)
    × (modules_ok (l.count - l.k) (words_in (drop l.place l.records)) l.names l.q ≡ modules_ok l.count (words_in l.records) l.names 0)
