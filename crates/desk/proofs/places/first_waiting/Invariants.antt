-- The invariant: the places from i on have the same first one at which a buffer waits as those from `from` on.
use Rattle.std.proofs.Common.{◌≡◌, drop}
use Rattle.desk_spec.specs.Desk.{first_waiting}
use Rattle.desk_spec.specs.Bytes.{desk_of}
use Rattle.desk.proofs.places.first_waiting.Given as goal

abbrev pub invariant-loop-i : goal.invariant-loop-i
invariant-loop-i l = first_waiting l.i (drop l.i (desk_of l.desk).places) ≡ first_waiting l.from (drop l.from (desk_of l.desk).places)
