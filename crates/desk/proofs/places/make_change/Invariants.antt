-- The invariant: the first k words of the changed desk are written. They are read from a copy, so that what is written is not read.
use Rattle.std.proofs.Common.{◌≡◌, length}
use Rattle.desk_spec.specs.Desk.{changed}
use Rattle.desk_spec.specs.Bytes.{desk_of}
use Rattle.desk.proofs.places.Writing.{written}
use Rattle.desk.proofs.places.make_change.Given as goal

abbrev pub invariant-loop-k : goal.invariant-loop-k
invariant-loop-k l = (length l.desk ≡ length l.initial.desk) × (l.desk ≡ written (changed l.change (desk_of l.initial.desk)) l.initial.desk l.k)
