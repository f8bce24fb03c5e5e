use Rattle.std.proofs.Common.{◌≡◌, ℕ, ◌-◌, ◌≤◌, length}
use Rattle.window.specs.Access.{Prog}
use Rattle.window.specs.Loop.{loop}
use Rattle.window.specs.Trace.{run_t}
use Rattle.window.specs.Outside.{Idle}
use Rattle.layout.specs.Segments.{entry_at}
use Rattle.linker.specs.Entries.{Makes}
use Rattle.linker.proofs.entries.for_each_entry.Given as goal

abbrev pub invariant-loop-index : goal.invariant-loop-index
invariant-loop-index g l =
    (l.index ≤ l.count)
    × (length l.w ≡ length l.initial.w)
    × (length l.trace ≡ length l.initial.trace)
    × ((f : ℕ → Prog (Unit {0})) → Idle l.at f l.size → Makes l.at f (goal.F-post g l.turn)
    → run_t l.at (loop (λ i _. f (entry_at l.table i l.size)) l.index (l.count - l.index) tt) (l.w, l.trace)
    ≡ run_t l.at (loop (λ i _. f (entry_at l.table i l.size)) 0 (l.count - 0) tt) (l.initial.w, l.initial.trace))

abbrev pub decreases-loop-index : goal.decreases-loop-index
decreases-loop-index g l = l.count - l.index
