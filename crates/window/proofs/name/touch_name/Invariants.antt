use Rattle.std.proofs.Common.{◌≡◌, ◌-◌, ◌≤◌, length}
use Rattle.window.specs.Trace.{run_t}
use Rattle.window.specs.Name.{name_from}
use Rattle.window.proofs.name.touch_name.Given as goal

abbrev pub invariant-loop-n : goal.invariant-loop-n
invariant-loop-n l =
    (l.n ≤ 512)
    × (length l.trace ≡ length l.initial.trace)
    × ((run_t l.at (name_from (512 - l.n) l.p) (l.w, l.trace)).1 ≡ (run_t l.at (name_from 512 l.address) (l.w, l.initial.trace)).1)
