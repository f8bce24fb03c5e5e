-- The name that is copied has no zero, as `compare_name_at` asks.
use Rattle.std.proofs.Common.{ap, ◌∙◌}
use Rattle.window.specs.Access.{run}
use Rattle.window.specs.Name.{name_at, order_of, no_zero, name-fits, name_is, name_taken}
use Rattle.window.proofs.name.Laws.{read_no_zero}
use Rattle.window.proofs.name.compare_copied.Goals as goal

pub slice_bounds-buffer-end : goal.slice_bounds-buffer-end
slice_bounds-buffer-end c = name-fits _ _ c.peek_name-n.ensures

pub slice_bounds-compare_name_at-end : goal.slice_bounds-compare_name_at-end
slice_bounds-compare_name_at-end c = name_taken _ _ c.peek_name-n.ensures

pub returns : goal.returns
returns c =
    let e = name_is _ _ c.peek_name-n.ensures in
    let a = c.args in
    c.compare_name_at.ensures (ap no_zero e ∙ read_no_zero a.at a.first a.w.now) ∙ ap (λ t. order_of t (run a.at (name_at a.second) a.w.now).0) e
