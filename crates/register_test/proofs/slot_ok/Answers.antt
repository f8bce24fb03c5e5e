use mathlib.Core.Path.{refl}
use native.Mathlib.Omega.{arith}
use Rattle.register.specs.Decode.{slot_length}
use Rattle.register_test.proofs.Laws.{slot_long, slot-zero, slot-rest}
use Rattle.register_test.proofs.slot_ok.Goals as goal

pub overflow_cast-low : goal.overflow_cast-low
overflow_cast-low c = omega (arith, c.type_inv.slot 0)

pub overflow_cast-high : goal.overflow_cast-high
overflow_cast-high c = omega (arith, c.type_inv.slot 1)

pub overflow_mul-size : goal.overflow_mul-size
overflow_mul-size c = omega (arith, c.type_inv.slot 1)

pub overflow_add-size : goal.overflow_add-size
overflow_add-size c = omega (arith, c.type_inv.slot 0, c.type_inv.slot 1)

pub returns-then-size-gt512 : goal.returns-then-size-gt512
unfolding slot_length
returns-then-size-gt512 c = slot_long _ refl c.if-size-gt512.true

pub returns-then-not-no_zero : goal.returns-then-not-no_zero
unfolding slot_length
returns-then-not-no_zero c = slot-zero _ refl c.if-size-gt512.false c.no_zero.ensures c.if-not-no_zero.true

pub returns : goal.returns
unfolding slot_length
returns c = slot-rest _ refl c.if-size-gt512.false c.no_zero.ensures
    c.if-not-no_zero.false c.zero_from.ensures
