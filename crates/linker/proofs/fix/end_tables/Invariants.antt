use Rattle.std.proofs.Common.{◌≡◌, ◌+◌, ◌-◌, ◌*◌, ◌≤◌, length}
use Rattle.window.specs.Trace.{run_t}
use Rattle.window.specs.Loop.{loop}
use Rattle.layout.specs.Segments.{set_field}
use Rattle.linker_spec.specs.Fix.{end_tables}
use Rattle.linker.proofs.fix.end_tables.Given as goal

abbrev pub invariant-loop-i : goal.invariant-loop-i
invariant-loop-i l =
    (l.i ≤ l.count)
    × (length l.w ≡ length l.initial.w)
    × (run_t l.at (loop (λ i _. set_field l.base (l.barrier + 8 * i) l.end) l.i (l.count - l.i) tt) (l.w, l.trace)
    ≡ run_t l.at (end_tables l.base l.barrier l.end) (l.initial.w, l.initial.trace))
    × (length l.trace ≡ length l.initial.trace)
