-- The invariant: the reader is one of the file, and the steps before the one that it stands at are calls.
use Rattle.std.proofs.Common.{◌≡◌, ◌-◌, ◌≤◌, true}
use Rattle.session.specs.File.{are_steps}
use Rattle.session.proofs.file.are_steps.Given as goal

abbrev pub invariant-loop-r : goal.invariant-loop-r
invariant-loop-r l = (l.r.file.now ≡ l.file) × (l.r.next ≤ l.count) × (are_steps l.file l.r.next ≡ true)

abbrev pub decreases-loop-r : goal.decreases-loop-r
decreases-loop-r l = l.count - l.r.next
