use Rattle.std.proofs.Common.{◌≡◌, ◌+◌, ◌-◌, ◌*◌, ◌≤◌, length}
use Rattle.window.specs.Memory.{◌⊕◌}
use Rattle.window.specs.Trace.{run_t}
use Rattle.window.specs.Loop.{loop}
use Rattle.layout.specs.Header.{first_rebased}
use Rattle.linker_spec.specs.Rebase.{move_word}
use Rattle.linker.proofs.rebase.words.move_header.Given as goal

abbrev pub invariant-loop-i : goal.invariant-loop-i
invariant-loop-i l =
    (l.i ≤ 17)
    × (length l.w ≡ length l.initial.w)
    × (run_t l.at (loop (λ i _. move_word l.forward l.base (l.base ⊕ (first_rebased + 8 * i))) l.i (17 - l.i) tt) (l.w, l.trace)
    ≡ run_t l.at (loop (λ i _. move_word l.forward l.base (l.base ⊕ (first_rebased + 8 * i))) 0 17 tt) (l.initial.w, l.initial.trace))
    × (length l.trace ≡ length l.initial.trace)
