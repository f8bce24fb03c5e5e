use Rattle.std.proofs.Common.{◌≡◌, ◌-◌, ◌≤◌, length}
use Rattle.window.specs.Trace.{run_t}
use Rattle.window.specs.Loop.{loop}
use Rattle.linker.proofs.rebase.Laws.{look_at}
use Rattle.linker.proofs.rebase.segments.look_at_segments.Given as goal

abbrev pub invariant-loop-i : goal.invariant-loop-i
invariant-loop-i l =
    (l.i ≤ l.count)
    × (run_t l.at (loop (look_at l.base) l.i (l.count - l.i) tt) (l.w, l.trace) ≡ run_t l.at (loop (look_at l.base) 0 (l.count - 0) tt) (l.w, l.initial.trace))
    × (length l.trace ≡ length l.initial.trace)
