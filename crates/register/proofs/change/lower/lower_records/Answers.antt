use Rattle.std.proofs.Common.{arith}
use Rattle.register.specs.Change.Lower.{walk-next, walk_end}
use Rattle.register.proofs.change.Laws.{size-part}
use Rattle.register.proofs.change.lower.lower_records.Goals as goal

pub overflow_mul-size : goal.overflow_mul-size
overflow_mul-size c = let n = walk-next (c.loop-place.invariant.1 c.requires)
    c.loop-place-test.true in
    let s = size-part c.loop-place.bytes c.loop-place.place c.module_size-size.ensures in
    omega (arith, n.inside)

pub lower_record-requires : goal.lower_record-requires
lower_record-requires c =
    (walk-next (c.loop-place.invariant.1 c.requires)
    c.loop-place-test.true).fits

pub overflow_add-place : goal.overflow_add-place
overflow_add-place c = let n =
    walk-next (c.loop-place.invariant.1
    c.requires)
    c.loop-place-test.true in
    let s = size-part c.loop-place.bytes
    c.loop-place.place c.module_size-size.ensures in
    omega (arith, n.inside)

pub loop-place-smaller : goal.loop-place-smaller
loop-place-smaller c = let n =
    walk-next (c.loop-place.invariant.1
    c.requires)
    c.loop-place-test.true in
    let s = size-part c.loop-place.bytes
    c.loop-place.place c.module_size-size.ensures in
    omega (arith, n.inside, n.some)

pub loop-place-preserved : goal.loop-place-preserved
loop-place-preserved c = (
  omega (arith, c.lower_record.auto.bytes, c.loop-place.invariant.0),
  λ s. rw (
    c.lower_record.ensures,
    size-part c.loop-place.bytes
        c.loop-place.place c.module_size-size.ensures,
  )
      (walk-next (c.loop-place.invariant.1 s)
      c.loop-place-test.true).walked,
)

pub returns : goal.returns
returns c = λ s. walk_end (c.loop-place.invariant.1 s) c.loop-place-test.false
