-- By the handler: `reset_none` and `reset_some`.
use Rattle.std.proofs.Common.{◌∙◌}
use Rattle.window.specs.TraceRuns.{joined}
use Rattle.linker.proofs.relocation.Laws.{reset_none, reset_some}
use Rattle.linker.proofs.relocation.reset_entry.Goals as goal
use Rattle.linker.proofs.relocation.reset_entry.Goals.{then-handler-ne0, else-handler-ne0}

pub returns : goal.returns
returns c =
    let a = c.args in
    elim c.if-handler-ne0.branch [
      | then-handler-ne0 w ↦
          reset_some a.at a.base a.handler a.entry (a.w.now, a.trace.now) c.wrapping_add_u32.ensures.value c.write8.ensures w.if-handler-ne0.true
          (joined w.w-is w.trace-is ∙ w.apply_entry.ensures)
      | else-handler-ne0 w ↦
          reset_none a.at a.base a.handler a.entry (a.w.now, a.trace.now) c.wrapping_add_u32.ensures.value c.write8.ensures w.if-handler-ne0.false
          (joined w.w-is w.trace-is)
    ]
