use Rattle.std.proofs.Common.{◌≡◌, ℕ, ◌+◌, ◌-◌, ◌*◌, ◌≤◌, List, length}
use Rattle.window.specs.Memory.{place}
use Rattle.window.specs.Trace.{run_t}
use Rattle.window.specs.Loop.{loop}
use Rattle.linker.proofs.rebase.Pointers.{move_pointer}
use Rattle.linker.proofs.rebase.tables.move_single.Given as goal

abbrev pub invariant-loop-index : goal.invariant-loop-index
invariant-loop-index l =
    (l.index ≤ l.count)
    × (l.place ≡ l.start + l.first + l.index * l.size)
    × (length l.w ≡ length l.initial.w)
    × ((at table : ℕ) (trace : List ℕ) → l.start ≡ place at table
    → run_t at (loop (λ i _. move_pointer l.forward l.base l.size l.first table i) l.index (l.count - l.index) tt) (l.w, trace)
    ≡ run_t at (loop (λ i _. move_pointer l.forward l.base l.size l.first table i) 0 l.count tt) (l.initial.w, trace))
