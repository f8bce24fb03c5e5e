use Rattle.std.proofs.Common.{◌≡◌, ◌-◌, ◌∙◌, arith}
use Rattle.layout.specs.Segments.{entry_at}
use Rattle.window.specs.TraceRuns.{steps-over}
use Rattle.window.specs.Outside.{silent_goes, strides_made}
use Rattle.linker.proofs.entries.for_each_entry.Goals as goal

pub overflow_add-index : goal.overflow_add-index
overflow_add-index g c = omega (arith, silent_goes _ _ _ _ _ _ c.silent_stride-index.ensures (omega arith))

pub loop-index-smaller : goal.loop-index-smaller
loop-index-smaller g c = omega (arith, silent_goes _ _ _ _ _ _ c.silent_stride-index.ensures (omega arith))

pub loop-index-preserved : goal.loop-index-preserved
loop-index-preserved g c =
    let a = c.args in
    let l = c.loop-index in (
      omega (arith, silent_goes _ _ _ _ _ _ c.silent_stride-index.ensures (omega arith)),
      c.turn.auto.arg2 ∙ l.invariant.1,
      c.turn.auto.arg3 ∙ l.invariant.2,
      λ f idle made. strides_made a.at f a.size a.table l.index a.count (l.w, l.trace) (l.invariant.3 f idle made) c.loop-index-test.true
          c.entry_address-entry.ensures (made _ _ _ _ _ (omega arith) c.turn.ensures) c.silent_stride-index.ensures idle,
    )

pub returns : goal.returns
returns g c =
    let a = c.args in
    let l = c.loop-index in
    let all : a.count - 0 ≡ a.count = omega arith in
    λ f idle made. rw all at
    (steps-over a.at f (λ i. entry_at a.table i a.size) l.index a.count (l.w, l.trace) (l.invariant.3 f idle made) c.loop-index-test.false)
