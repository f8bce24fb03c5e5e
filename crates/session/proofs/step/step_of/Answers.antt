use mathlib.Core.Path.{sym, ◌∙◌}
use Rattle.session.proofs.step.Laws.{is_load, is_initialize, is_unload, has_size, no_call, not-zero}
use Rattle.session.proofs.step.step_of.Goals as goal

pub returns-then-call-eq2 : goal.returns-then-call-eq2
returns-then-call-eq2 c = is_load _ _ _ _ c.if-call-eq2.true

pub returns-then-not-all_zero : goal.returns-then-not-all_zero
returns-then-not-all_zero c = not-zero _ _ _ _ c.if-call-eq2.false (sym c.if-not-all_zero.true ∙ c.all_zero.ensures)

pub returns-then-call-eq1 : goal.returns-then-call-eq1
returns-then-call-eq1 c = is_initialize _ _ _ _ c.if-call-eq1.true (sym c.if-not-all_zero.false ∙ c.all_zero.ensures)

pub returns-then-call-ne3 : goal.returns-then-call-ne3
returns-then-call-ne3 c = no_call _ _ _ _ c.if-call-eq1.false c.if-call-eq2.false c.if-call-ne3.true

pub returns-then-l-ne0 : goal.returns-then-l-ne0
returns-then-l-ne0 c = has_size _ _ _ _ c.if-call-ne3.false c.if-l-ne0.true

pub returns : goal.returns
returns c = is_unload _ _ _ _ c.if-call-ne3.false c.if-l-ne0.false
    (sym c.if-not-all_zero.false ∙ c.all_zero.ensures)
