use Rattle.std.proofs.Common.{◌≡◌, ◌-◌, ◌^◌, ◌<◌, length}
use Rattle.window.specs.Trace.{run_t}
use Rattle.linker_spec.specs.Relocation.{walk, batch_limit}
use Rattle.linker.proofs.relocation.apply_relocation_batch.Given as goal

abbrev pub invariant-loop-walked : goal.invariant-loop-walked
invariant-loop-walked l =
    (l.walked < 0x1001)
    × (l.entry < 2 ^ 32)
    × (length l.w ≡ length l.initial.w)
    × (run_t l.at (walk (0x1001 - l.walked) l.base l.symbol l.entry l.walked) (l.w, l.trace) ≡ run_t l.at (walk batch_limit l.base l.symbol l.batch 0) (l.initial.w, l.initial.trace))
    × (length l.trace ≡ length l.initial.trace)

abbrev pub decreases-loop-walked : goal.decreases-loop-walked
decreases-loop-walked l = 0x1001 - l.walked
