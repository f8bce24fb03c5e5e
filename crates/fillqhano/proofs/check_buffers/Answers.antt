use Rattle.fillqhano.proofs.Laws.{refusal_3, refusal_4, refusal_0}
use borrow.Author.Tests.{not-true, not-false}
use mathlib.Core.Path.{sym, ◌∙◌}
use Rattle.register.specs.Decode.{is_register}
use Rattle.fillqhano.proofs.check_buffers.Goals as goal

pub returns-then-not-good_window : goal.returns-then-not-good_window
returns-then-not-good_window c =
    let a = c.args in
    refusal_3 (is_register a.records.now a.names.now a.missing.now)
    (sym c.good_window.ensures ∙ not-true _ c.if-not-good_window.true-raw)

pub returns-then-not-is_register : goal.returns-then-not-is_register
returns-then-not-is_register c = refusal_4 (sym c.good_window.ensures ∙ not-false _ c.if-not-good_window.false-raw) (sym c.is_register.ensures ∙ not-true _ c.if-not-is_register.true-raw)

pub returns : goal.returns
returns c = refusal_0 (sym c.good_window.ensures ∙ not-false _ c.if-not-good_window.false-raw) (sym c.is_register.ensures ∙ not-false _ c.if-not-is_register.false-raw)
