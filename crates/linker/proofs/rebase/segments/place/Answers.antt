-- By the kind, and for Data and Bss by the size.
use Rattle.linker.proofs.rebase.Laws.{place_code, place_rodata, place_no_data, place_no_bss, place_data, place_bss}
use Rattle.linker.proofs.rebase.segments.place.Goals as goal

pub returns-then-s-eq0 : goal.returns-then-s-eq0
returns-then-s-eq0 c =
    let a = c.args in
    place_no_data a.lent a.s a.old c.in-Data.is c.if-s-eq0.true c.moved_place-then-s-eq0.ensures

pub returns-then-s-eq0-2 : goal.returns-then-s-eq0-2
returns-then-s-eq0-2 c =
    let a = c.args in
    place_no_bss a.lent a.s a.old c.in-Bss.is c.if-s-eq0-2.true c.moved_place-then-s-eq0-2.ensures

pub returns-in-Code : goal.returns-in-Code
returns-in-Code c =
    let a = c.args in
    place_code a.lent a.s a.old c.in-Code.is c.moved_place.ensures

pub returns-in-RoData : goal.returns-in-RoData
returns-in-RoData c =
    let a = c.args in
    place_rodata a.lent a.s a.old c.in-RoData.is c.moved_place-in-RoData.ensures

pub returns-else-s-eq0 : goal.returns-else-s-eq0
returns-else-s-eq0 c =
    let a = c.args in
    place_data a.lent a.s a.old c.in-Data.is c.if-s-eq0.false c.wrapping_add_u32-from.ensures.value c.lent_place.ensures

pub returns-else-s-eq0-2 : goal.returns-else-s-eq0-2
returns-else-s-eq0-2 c =
    let a = c.args in
    place_bss a.lent a.s a.old c.in-Bss.is c.if-s-eq0-2.false c.lent_place-in-Bss.ensures
