use Rattle.std.proofs.Common.{◌≡◌, ◌≤◌, length, drop}
use Rattle.window.specs.Trace.{run_t}
use Rattle.layout.specs.Tables.{pointer_tables}
use Rattle.linker_spec.specs.Rebase.{move_tables}
use Rattle.linker.proofs.rebase.tables.move_tables.Given as goal

abbrev pub invariant-loop-i : goal.invariant-loop-i
invariant-loop-i l =
    (l.i ≤ 5)
    × (length l.w ≡ length l.initial.w)
    × (run_t l.at (move_tables l.forward l.base (drop l.i pointer_tables)) (l.w, l.trace) ≡ run_t l.at (move_tables l.forward l.base pointer_tables) (l.initial.w, l.initial.trace))
    × (length l.trace ≡ length l.initial.trace)
