use Rattle.std.proofs.Common.{sym, ap, ◌∙◌}
use Rattle.std.specs.Ordering.{is_eq}
use Rattle.register.specs.Order.{same_order}
use Rattle.register.proofs.exports.same_name.Goals as goal

pub returns : goal.returns
returns c = c.is_eq.ensures ∙ ap is_eq c.compare_names.ensures ∙ sym (same_order _ _)
