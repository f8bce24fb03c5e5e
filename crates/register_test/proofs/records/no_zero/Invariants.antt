-- The invariant: the flag, whether no byte so far is 0, and the bytes left say together what all bytes say.
use mathlib.Core.Bool.{◌&&◌}
use mathlib.Core.Path.{◌≡◌}
use lib.ListN.{drop}
use Rattle.window.specs.Name.{no_zero}
use Rattle.register_test.proofs.records.no_zero.Given as goal

abbrev pub invariant-loop-b : goal.invariant-loop-b
invariant-loop-b l = (l.none && no_zero (drop l.b-index l.bytes)) ≡ no_zero l.bytes
