use Rattle.std.proofs.Common.{ap, ◌∙◌, arith}
use Rattle.register.specs.Decode.{slot_name}
use Rattle.register.proofs.read.Laws.{slot-short, slot_is}
use Rattle.register.proofs.read.modules.missing_name.Goals as goal

pub returns-then-slot-lt2 : goal.returns-then-slot-lt2
returns-then-slot-lt2 c = c.bytes_from.ensures ∙ slot-short _ c.if-slot-lt2.true ∙ ap slot_name c.bytes_at-slot.ensures

pub overflow_cast-low : goal.overflow_cast-low
overflow_cast-low c = omega (arith, c.type_inv.slot 0)

pub overflow_cast-high : goal.overflow_cast-high
overflow_cast-high c = omega (arith, c.type_inv.slot 1)

pub overflow_mul-high : goal.overflow_mul-high
overflow_mul-high c = omega (arith, c.type_inv.slot 1)

pub overflow_add-low : goal.overflow_add-low
overflow_add-low c = omega (arith, c.type_inv.slot 1, c.type_inv.slot 0)

pub returns : goal.returns
returns c = c.bytes_at.ensures ∙ slot_is _ ∙ ap slot_name c.bytes_at-slot.ensures
