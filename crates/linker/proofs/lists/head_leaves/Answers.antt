use Rattle.std.proofs.Common.{◌∙◌}
use Rattle.window.specs.TraceRuns.{joined}
use Rattle.linker.proofs.lists.Laws.{head-alone, head-left}
use Rattle.linker.proofs.lists.head_leaves.Goals as goal
use Rattle.linker.proofs.lists.head_leaves.Goals.{then-next-ne0, else-next-ne0}

pub returns : goal.returns
returns c =
    let a = c.args in
    elim c.if-next-ne0.branch [
      | then-next-ne0 w ↦
          head-left a.at a.crs a.x a.next a.previous (a.w.now, a.trace.now) c.set_field-2.ensures w.if-next-ne0.true
          (joined w.w-is w.trace-is ∙ w.set_field.ensures)
      | else-next-ne0 w ↦
          head-alone a.at a.crs a.x a.next a.previous (a.w.now, a.trace.now) c.set_field-2.ensures w.if-next-ne0.false (joined w.w-is w.trace-is)
    ]
