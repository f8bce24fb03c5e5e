-- The invariant: i bytes, and those that the words still to be passed take from there on.
use Prim.Native.Nat.{◌+◌}
use mathlib.Core.Path.{◌≡◌}
use lib.ListN.{drop}
use Rattle.header.specs.Lines.{words_length}
use Rattle.header.proofs.lines.words_length.Given as goal

abbrev pub invariant-loop-i : goal.invariant-loop-i
invariant-loop-i l = l.i + words_length l.left (drop l.i l.text) ≡ words_length l.k l.text
