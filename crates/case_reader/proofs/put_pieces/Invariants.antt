-- The invariant: the pieces that are left, laid over the buffer as it is, give what all of them give.
use Rattle.std.proofs.Common.{◌≡◌, ◌-◌, length}
use Rattle.case_reader.specs.Pieces.{pieces}
use Rattle.case_reader.proofs.put_pieces.Given as goal

abbrev pub invariant-loop-k : goal.invariant-loop-k
invariant-loop-k l =
    (length l.buffer ≡ length l.initial.buffer)
    × (pieces (l.count - l._k) l.file l.place l.buffer ≡ pieces l.count l.file l.at l.initial.buffer)
