use Rattle.session.proofs.file.Laws.{past-limits, part-outside, steps-left}
use Rattle.session.proofs.file.is_session.Goals as goal

pub returns-then-not-in_limits : goal.returns-then-not-in_limits
returns-then-not-in_limits c = past-limits _ c.in_limits.ensures c.if-not-in_limits.true

pub returns-then-not-are_parts_inside : goal.returns-then-not-are_parts_inside
returns-then-not-are_parts_inside c = part-outside _ c.in_limits.ensures c.if-not-in_limits.false
    c.are_parts_inside.ensures c.if-not-are_parts_inside.true

pub returns : goal.returns
returns c = steps-left _ c.in_limits.ensures
    c.if-not-in_limits.false c.are_parts_inside.ensures
    c.if-not-are_parts_inside.false c.step_count.ensures c.are_steps.ensures
