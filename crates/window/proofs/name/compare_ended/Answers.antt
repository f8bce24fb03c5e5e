-- A zero after as many bytes ends the name that the row begins with; without one the row itself stands for that name.
use Rattle.std.proofs.Common.{sym, ◌∙◌, arith, length-take-le, rules}
use Rattle.window.specs.Name.{order_ended_0, order_ended}
use Rattle.window.proofs.name.compare_ended.Goals as goal
use Rattle.window.proofs.name.compare_ended.Goals.{else-n-row-via-then-n-row+else-row-n-eq0, else-n-row-via-else-n-row}

pub slice_bounds-compare_names-end : goal.slice_bounds-compare_names-end
slice_bounds-compare_names-end c = let l = c.if-n-row.true in sym (length-take-le _ _ (omega arith))

pub returns-then-row-n-eq0 : goal.returns-then-row-n-eq0
returns-then-row-n-eq0 c z = c.compare_names.ensures ∙ order_ended_0 _ _ z (search rules)

pub returns : goal.returns
returns c z =
    c.compare_names-2.ensures
    ∙ order_ended _ _ z
    (λ e. elim c.else-n-row.branch [
      | else-n-row-via-then-n-row+else-row-n-eq0 w ↦ absurd (w.if-row-n-eq0.false e)
      | else-n-row-via-else-n-row w ↦ w.if-n-row.false
    ])
