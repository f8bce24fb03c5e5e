use Rattle.std.proofs.Common.{◌≡◌, ◌+◌, ◌∙◌, arith}
use Rattle.linker.specs.Exports.Modules.{Bare}
use Rattle.linker.proofs.exports.Laws.{turn_full, WithSegmentsTo, segments_to_lem, segments-count, segments-done}
use Rattle.linker.proofs.exports.add_segments.Goals as goal

pub returns-in_err-last : goal.returns-in_err-last
returns-in_err-last c =
    let a = c.args in
    let l = c.loop-i in
    rw c.from_residual.ensures
    (segments-done a.at a.w.now a.base _ _ _ _ _ _ _
    (segments-count a.at a.w.now a.base c.field.ensures c.at_most_16-count.ensures)
    (turn_full Bare (WithSegmentsTo a.at a.w.now a.base) _ _ _ _ _ _ l.i l.invariant.2 _ _ _ c.add_segment.ensures
    _ (segments_to_lem a.at a.w.now a.base (l.i + 1) _ (omega (arith, c.loop-i-test.true))) c.in_err-last.was))

pub returns : goal.returns
returns c =
    let a = c.args in
    let l = c.loop-i in
    segments-done a.at a.w.now a.base l.i _ _ _ _ _ _
    (let e : l.i ≡ c.at_most_16-count.result = omega (arith, c.loop-i-test.false) in
    e ∙ segments-count a.at a.w.now a.base c.field.ensures c.at_most_16-count.ensures)
    l.invariant.2
