use Prim.Native.Nat.{◌-◌, ◌/◌}
use mathlib.Core.Path.{◌≡◌}
use lib.ListN.{length}
use Rattle.register.specs.Words.{words_in}
use Rattle.register.specs.Check.{exports_end}
use Rattle.register_test.proofs.records.exports_end.Given as goal

abbrev pub invariant-loop-k : goal.invariant-loop-k
invariant-loop-k l =
    exports_end (length l.exports / 12 - l.k) (words_in l.exports) l.names l.k l.place ≡ exports_end (length (words_in l.exports) / 3) (words_in l.exports) l.names 0 l.q
