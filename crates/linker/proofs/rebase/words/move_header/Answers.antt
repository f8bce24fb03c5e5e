-- The name's offset, then a counted loop: `header_starts`, `step_made`, `steps-over`.
use Rattle.std.proofs.Common.{◌+◌, ◌*◌, refl, ap, ◌∙◌, arith}
use Rattle.window.specs.Memory.{◌⊕◌}
use Rattle.layout.specs.Header.{first_rebased}
use Rattle.linker_spec.specs.Rebase.{move_word}
use Rattle.window.specs.TraceRuns.{step_made, steps-over, left}
use Rattle.linker.proofs.rebase.Laws.{header_starts}
use Rattle.linker.proofs.rebase.words.move_header.Goals as goal

pub loop-i-init : goal.loop-i-init
loop-i-init c = (omega arith, refl, refl, refl)

pub loop-i-preserved : goal.loop-i-preserved
loop-i-preserved c =
    let a = c.args in (
      omega arith,
      c.move_word-in-loop-i.auto.w ∙ c.loop-i.invariant.1,
      step_made a.at (move_word a.forward a.base) (λ i. a.base ⊕ (first_rebased + 8 * i)) c.loop-i.i 17
          (c.loop-i.w, c.loop-i.trace) c.loop-i.invariant.2 c.loop-i-test.true c.wrapping_add_u32-p.ensures.value c.move_word-in-loop-i.ensures,
      c.move_word-in-loop-i.auto.trace ∙ c.loop-i.invariant.3,
    )

pub returns : goal.returns
returns c =
    let a = c.args in
    steps-over a.at (move_word a.forward a.base) (λ i. a.base ⊕ (first_rebased + 8 * i)) c.loop-i.i 17 (c.loop-i.w, c.loop-i.trace)
    c.loop-i.invariant.2 c.loop-i-test.false
    ∙ ap left (header_starts a.at a.forward a.base (a.w.now, a.trace.now) c.wrapping_add_u32.ensures.value c.move_word.ensures)
