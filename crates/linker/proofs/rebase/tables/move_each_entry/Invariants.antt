use Rattle.std.proofs.Common.{◌≡◌, ◌-◌, length}
use Rattle.window.specs.Trace.{run_t}
use Rattle.window.specs.Loop.{loop}
use Rattle.layout.specs.Segments.{entry_at}
use Rattle.linker_spec.specs.Rebase.{move_pointers, pointers_of}
use Rattle.linker.proofs.rebase.tables.move_each_entry.Given as goal

abbrev pub invariant-loop-index : goal.invariant-loop-index
invariant-loop-index l =
    (length l.w ≡ length l.initial.w)
    × (run_t l.at (loop (λ i _. move_pointers l.forward l.base (entry_at l.table i l.t.entry_size) (pointers_of l.t)) l.index (l.count - l.index) tt) (l.w, l.trace)
    ≡ run_t l.at (loop (λ i _. move_pointers l.forward l.base (entry_at l.table i l.t.entry_size) (pointers_of l.t)) 0 l.count tt) (l.initial.w, l.initial.trace))
    × (length l.trace ≡ length l.initial.trace)
