use Rattle.std.proofs.Common.{[], refl, arith}
use Rattle.linker.proofs.touches.Laws.{none_touched, turn_touched, turns_touched, touch_kept, segment_turn, segment_touched, turn_reads, segments_touched}
use Rattle.linker.proofs.touches.touch_segments.Goals as goal

pub loop-index-init : goal.loop-index-init
loop-index-init c =
    let a = c.args in
    (omega arith, none_touched a.at (segment_turn a.base) (λ j. j) _ _ [])

pub returns-then-said : goal.returns-then-said
returns-then-said c =
    let a = c.args in
    let l = c.loop-index in
    segments_touched a.at a.base (a.w.now, a.trace.now) c.field-count.ensures
    (touch_kept a.at (segment_turn a.base) (λ j. j) _ _ (a.w.now, l.trace) l.invariant.1
    (turn_reads a.base) c.said.ensures c.if-said.true)

pub loop-index-preserved : goal.loop-index-preserved
loop-index-preserved c =
    let a = c.args in
    let l = c.loop-index in
    let h = segment_touched a.at a.base l.index (a.w.now, l.trace) c.segment.ensures in
    let m = turn_touched a.at (segment_turn a.base) (λ j. j) _ _ (a.w.now, l.trace) l.invariant.1 c.loop-index-test.true refl h in
    (omega arith, m)

pub returns : goal.returns
returns c =
    let a = c.args in
    let l = c.loop-index in
    segments_touched a.at a.base (a.w.now, a.trace.now) c.field-count.ensures
    (turns_touched a.at (segment_turn a.base) (λ j. j) _ _ (a.w.now, l.trace) l.invariant.1 c.loop-index-test.false)
