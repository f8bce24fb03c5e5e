-- The invariant: the pairs of the bytes that are left, put where the loop stands, give what the pairs of all give.
use Rattle.std.proofs.Common.{◌≡◌, drop}
use Rattle.text.specs.Text.{pairs_of, put}
use Rattle.text.specs.Puts.{written}
use Rattle.text.proofs.Text.put_pairs.Given as goal

abbrev pub invariant-loop-byte : goal.invariant-loop-byte
invariant-loop-byte l =
    (put (pairs_of (drop l.byte-index l.bytes)) (written l.self) ≡ put (pairs_of l.bytes) (written l.initial.self))
    × (l.self.buffer.ghost_name ≡ l.initial.self.buffer.ghost_name)
