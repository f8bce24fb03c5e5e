use Prim.Native.Nat.{◌-◌, ◌/◌}
use mathlib.Core.Path.{◌≡◌}
use lib.ListN.{length}
use Rattle.register.specs.Words.{words_in}
use Rattle.register.specs.Module.{ascending}
use Rattle.register.specs.Decode.{export_at, exports_from, exports_in}
use Rattle.register_test.proofs.ascending.ascending_exports.Given as goal

abbrev pub invariant-loop-k : goal.invariant-loop-k
invariant-loop-k l =
    (l.last ≡ (export_at (words_in l.exports) l.names (l.k - 1)).name)
    × (ascending (exports_from (length l.exports / 12 - (l.k - 1)) (words_in l.exports) l.names (l.k - 1)) ≡ ascending (exports_in (words_in l.exports) l.names))
