-- The walk from here on gives what the whole walk gives (`walk-past`); it ends at a mark or at the last entry, then the mark is set.
use Rattle.std.proofs.Common.{refl, ◌∙◌, arith}
use Rattle.window.specs.Outside.{silent_goes}
use Rattle.linker.proofs.relocation.Laws.{walk_end, batch_made, mark_byte}
use Rattle.linker.proofs.relocation.Walk.{walk-past, walk_filled}
use Rattle.linker.proofs.relocation.apply_relocation_batch.Goals as goal
use Rattle.linker.proofs.relocation.apply_relocation_batch.Goals.{then-end-ne0, else-end-ne0+then-walked-eq4097}

pub loop-walked-init : goal.loop-walked-init
loop-walked-init c = (omega arith, omega (arith, c.ranges.batch), refl, refl, refl)

pub overflow_add-walked : goal.overflow_add-walked
overflow_add-walked c = omega (arith, c.loop-walked.invariant.0)

pub overflow_sub-left : goal.overflow_sub-left
overflow_sub-left c = omega (arith, c.loop-walked.invariant.0)

pub overflow_cast-walked : goal.overflow_cast-walked
overflow_cast-walked c = omega (arith, silent_goes _ _ _ _ _ _ c.silent_stride-passed.ensures (omega (arith, c.loop-walked.invariant.0)))

pub overflow_add-walked-in-loop-walked : goal.overflow_add-walked-in-loop-walked
overflow_add-walked-in-loop-walked c = omega (arith, c.loop-walked.invariant.0, silent_goes _ _ _ _ _ _ c.silent_stride-passed.ensures (omega (arith, c.loop-walked.invariant.0)))

pub loop-walked-smaller : goal.loop-walked-smaller
loop-walked-smaller c = omega (arith, c.loop-walked.invariant.0, silent_goes _ _ _ _ _ _ c.silent_stride-passed.ensures (omega (arith, c.loop-walked.invariant.0)))

pub loop-walked-preserved : goal.loop-walked-preserved
loop-walked-preserved c =
    let a = c.args in (
      omega (arith, c.if-walked-eq4097.false, c.loop-walked.invariant.0, silent_goes _ _ _ _ _ _ c.silent_stride-passed.ensures (omega (arith, c.loop-walked.invariant.0))),
      omega (arith, c.entry_address-entry.ensures),
      c.walk_entry-end.auto.w ∙ c.loop-walked.invariant.2,
      walk-past a.at a.base a.symbol c.loop-walked.entry (c.loop-walked.w, c.loop-walked.trace) 0x1001 c.loop-walked.walked c.loop-walked.invariant.1
          c.loop-walked.invariant.0 c.walk_entry-end.ensures c.if-end-ne0.false c.silent_stride-passed.ensures c.entry_address-entry.ensures
          ∙ c.loop-walked.invariant.3,
      c.walk_entry-end.auto.trace ∙ c.loop-walked.invariant.4,
    )

pub returns : goal.returns
returns c =
    let a = c.args in
    batch_made a.at a.base a.batch a.symbol a.resolved (a.w.now, a.trace.now)
    (elim c.if-end-ne0.branch [
      | then-end-ne0 w ↦
          walk_end a.at a.base a.symbol c.loop-walked.entry (c.loop-walked.w, c.loop-walked.trace) 0x1001 c.loop-walked.walked c.loop-walked.invariant.0
          c.walk_entry-end.ensures w.walked-is w.if-end-ne0.true
      | else-end-ne0+then-walked-eq4097 w ↦
          walk_filled a.at a.base a.symbol c.loop-walked.entry (c.loop-walked.w, c.loop-walked.trace) 0x1001 c.loop-walked.walked c.loop-walked.invariant.1
          c.loop-walked.invariant.0 c.walk_entry-end.ensures w.if-end-ne0.false w.silent_stride-passed.ensures w.walked-is w.if-walked-eq4097.true
    ]
    ∙ c.loop-walked.invariant.3)
    c.wrapping_add_u32.ensures.value (mark_byte a.resolved) c.write8.ensures
