-- The invariant: the writes still to be made, on the window as it stands, give what all four give on the window at entry.
use Rattle.std.proofs.Common.{◌≡◌, ◌-◌, ◌^◌, ◌<◌, ◌≤◌, length}
use Rattle.window.specs.Memory.{put_upward}
use Rattle.window.proofs.plain.write32_upward.Given as goal

abbrev pub invariant-loop-k : goal.invariant-loop-k
invariant-loop-k l =
    (l.k ≤ 4) × (length l.w ≡ length l.initial.w) × (l.rest < 2 ^ 32) × (put_upward (4 - l.k) l.at l.w l.y l.rest ≡ put_upward 4 l.at l.initial.w l.x l.v)

abbrev pub decreases-loop-k : goal.decreases-loop-k
decreases-loop-k l = 4 - l.k
