use Rattle.std.proofs.Common.{◌≡◌, ◌-◌, ◌≤◌, length}
use Rattle.window.specs.Trace.{run_t}
use Rattle.window.specs.Loop.{loop}
use Rattle.linker_spec.specs.Fix.{fix_pair}
use Rattle.linker.proofs.fix.fix_pairs.Given as goal

abbrev pub invariant-loop-i : goal.invariant-loop-i
invariant-loop-i l =
    (l.i ≤ 15)
    × (length l.w ≡ length l.initial.w)
    × (run_t l.at (loop (fix_pair l.base l.barrier) l.i (15 - l.i) l.last) (l.w, l.trace) ≡ run_t l.at (loop (fix_pair l.base l.barrier) 0 15 l.end) (l.initial.w, l.initial.trace))
    × (length l.trace ≡ length l.initial.trace)
