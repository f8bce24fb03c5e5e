-- Each arm has the definition at its constructor.
use Rattle.std.proofs.Common.{rules}
use Rattle.linker_spec.specs.Relocation.{write_place}
use Rattle.linker.proofs.internal.write_place.Goals as goal

pub returns-in-Data : goal.returns-in-Data
unfolding write_place
returns-in-Data c =
    rw (c.in-Data.is, c.wrapping_add_u32.ensures.value)

pub returns-in-Code : goal.returns-in-Code
unfolding write_place
returns-in-Code c = search rules

pub returns-in-RoData : goal.returns-in-RoData
unfolding write_place
returns-in-RoData c = search rules

pub returns-in-Bss : goal.returns-in-Bss
unfolding write_place
returns-in-Bss c = search rules
