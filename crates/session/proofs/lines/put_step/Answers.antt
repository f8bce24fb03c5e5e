-- The pieces of the line, one after another.
use Rattle.text.specs.Text.{bytes}
use Rattle.session.proofs.lines.Laws.{step_line_lem}
use Rattle.session.proofs.lines.put_step.Goals as goal

pub returns : goal.returns
unfolding bytes
returns c =
    let a = c.args in
    step_line_lem a.k a.step a.number a.value c.put_decimal.ensures c.put.ensures c.put_call.ensures c.decimal_after.ensures c.hex_after.ensures
    c.put-2.ensures
