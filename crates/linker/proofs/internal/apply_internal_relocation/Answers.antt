-- By cases: no target segment, an offset at or past its size, no symbol segment, both there.
use Rattle.linker.proofs.internal.Laws.{into_missing, into-past, from_missing, from_found}
use Rattle.linker.proofs.internal.apply_internal_relocation.Goals as goal

pub returns-in_default : goal.returns-in_default
returns-in_default c =
    let a = c.args in
    into_missing a.at a.base a.old a.entry (a.w.now, a.trace.now) c.read32.ensures c.wrapping_add_u32.ensures.value c.read8-kind.ensures
    c.wrapping_add_u32-2.ensures.value c.read8-symbol.ensures c.wrapping_add_u32-3.ensures.value c.read32-addend.ensures c.segment.ensures c.segment-2.ensures
    c.in_default.is

pub returns-then-offset-into : goal.returns-then-offset-into
returns-then-offset-into c =
    let a = c.args in
    into-past a.at a.base a.old a.entry (a.w.now, a.trace.now) c.read32.ensures c.wrapping_add_u32.ensures.value c.read8-kind.ensures
    c.wrapping_add_u32-2.ensures.value c.read8-symbol.ensures c.wrapping_add_u32-3.ensures.value c.read32-addend.ensures c.segment.ensures c.segment-2.ensures
    c.in-Some.into c.in-Some.is c.offset-offset.ensures c.if-offset-into.true

pub returns-in_default-segment : goal.returns-in_default-segment
returns-in_default-segment c =
    let a = c.args in
    from_missing a.at a.base a.old a.entry (a.w.now, a.trace.now) c.read32.ensures c.wrapping_add_u32.ensures.value c.read8-kind.ensures
    c.wrapping_add_u32-2.ensures.value c.read8-symbol.ensures c.wrapping_add_u32-3.ensures.value c.read32-addend.ensures c.segment.ensures c.segment-2.ensures
    c.in-Some.into c.in-Some.is c.offset-offset.ensures c.if-offset-into.false c.segment-3.ensures c.in_default-segment.is

pub returns : goal.returns
returns c =
    let a = c.args in
    from_found a.at a.base a.old a.entry (a.w.now, a.trace.now) c.read32.ensures c.wrapping_add_u32.ensures.value c.read8-kind.ensures
    c.wrapping_add_u32-2.ensures.value c.read8-symbol.ensures c.wrapping_add_u32-3.ensures.value c.read32-addend.ensures c.segment.ensures c.segment-2.ensures
    c.in-Some.into c.in-Some.is c.offset-offset.ensures c.if-offset-into.false c.segment-3.ensures
    c.in-Some-segment.from c.in-Some-segment.is c.wrapping_add_u32-target_final.ensures.value c.write_place-target.ensures c.from.ensures c.apply_relocation.ensures
