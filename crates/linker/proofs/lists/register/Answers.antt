-- An empty list or not: `registered_head`, `registered_tail`.
use Rattle.std.proofs.Common.{◌∙◌}
use Rattle.window.specs.TraceRuns.{joined}
use Rattle.linker.proofs.lists.Laws.{registered_head, registered_tail}
use Rattle.linker.proofs.lists.register.Goals as goal
use Rattle.linker.proofs.lists.register.Goals.{then-head-eq0, else-head-eq0}

pub returns : goal.returns
returns c =
    let a = c.args in
    elim c.if-head-eq0.branch [
      | then-head-eq0 w ↦
          registered_head a.at a.crs a.base a.auto_link (a.w.now, a.trace.now) c.head_field-x.ensures c.field-head.ensures c.set_field.ensures
          w.if-head-eq0.true (joined w.w-is w.trace-is ∙ w.become_head.ensures)
      | else-head-eq0 w ↦
          registered_tail a.at a.crs a.base a.auto_link (a.w.now, a.trace.now) c.head_field-x.ensures c.field-head.ensures c.set_field.ensures
          w.if-head-eq0.false (joined w.w-is w.trace-is ∙ w.become_tail.ensures)
    ]
