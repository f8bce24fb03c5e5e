-- The invariant: the place is i further than it is among the places from i on.
use Rattle.std.proofs.Common.{◌≡◌, ◌+◌, drop}
use Rattle.desk_spec.specs.Desk.{place_of}
use Rattle.desk_spec.specs.Bytes.{desk_of}
use Rattle.desk.proofs.places.place_of.Given as goal

abbrev pub invariant-loop-i : goal.invariant-loop-i
invariant-loop-i l = l.i + place_of l.caller (drop l.i (desk_of l.desk).places) ≡ place_of l.caller (desk_of l.desk).places
