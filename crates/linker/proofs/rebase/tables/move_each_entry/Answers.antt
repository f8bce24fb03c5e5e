-- One entry after the other, `step_made` and `steps-over`.
use Rattle.std.proofs.Common.{◌∙◌}
use Rattle.window.specs.TraceRuns.{step_made, steps-over}
use Rattle.layout.specs.Segments.{entry_at}
use Rattle.linker_spec.specs.Rebase.{move_pointers, pointers_of}
use Rattle.linker.proofs.rebase.tables.move_each_entry.Goals as goal

pub loop-index-preserved : goal.loop-index-preserved
loop-index-preserved c =
    let a = c.args in
    let l = c.loop-index in (
      c.move_pointers.auto.w ∙ l.invariant.0,
      step_made a.at (λ entry. move_pointers a.forward a.base entry (pointers_of a.t)) (λ i. entry_at a.table i a.t.entry_size) l.index a.count
          (l.w, l.trace) l.invariant.1 c.loop-index-test.true c.entry_address-entry.ensures c.move_pointers.ensures,
      c.move_pointers.auto.trace ∙ l.invariant.2,
    )

pub returns : goal.returns
returns c =
    let a = c.args in
    let l = c.loop-index in
    steps-over a.at (λ entry. move_pointers a.forward a.base entry (pointers_of a.t)) (λ i. entry_at a.table i a.t.entry_size) l.index a.count
    (l.w, l.trace) l.invariant.1 c.loop-index-test.false
