-- The invariant: the flag, whether all bytes so far are 0, and the bytes left say together what all bytes say.
use Rattle.std.proofs.Common.{◌≡◌, ◌&&◌, drop}
use Rattle.register.specs.Words.{all_zero}
use Rattle.register.proofs.words.zero_from.Given as goal

abbrev pub invariant-loop-i : goal.invariant-loop-i
invariant-loop-i l = (l.zero && all_zero (drop l.i l.bytes)) ≡ all_zero (drop l.from l.bytes)
