use Rattle.std.proofs.Common.{ap, ◌∙◌}
use Rattle.window.specs.Name.{order_of, name-fits, name_is, name_taken}
use Rattle.window.proofs.name.compare_with_copy.Goals as goal

pub slice_bounds-buffer-end : goal.slice_bounds-buffer-end
slice_bounds-buffer-end c = name-fits _ _ c.peek_name-n.ensures

pub slice_bounds-compare_names-end : goal.slice_bounds-compare_names-end
slice_bounds-compare_names-end c = name_taken _ _ c.peek_name-n.ensures

pub returns : goal.returns
returns c = c.compare_names.ensures ∙ ap (order_of _) (name_is _ _ c.peek_name-n.ensures)
