-- The entry's words by `entry_applied`, what is done with them by the tag's address: `relocate_nowhere`, `relocate-at`.
use Rattle.linker.proofs.relocation.Laws.{relocate_nowhere, relocate-at, entry_applied}
use Rattle.linker.proofs.relocation.apply_entry.Goals as goal

pub returns-in_default : goal.returns-in_default
returns-in_default c =
    let a = c.args in
    entry_applied a.at a.base a.symbol a.entry (a.w.now, a.trace.now)
    c.read32-tag.ensures c.wrapping_add_u32.ensures.value c.read8-kind.ensures c.wrapping_add_u32-2.ensures.value c.read32-addend.ensures
    (relocate_nowhere a.at a.base a.symbol _ _ _ _ c.tag_to_address.ensures c.in_default.is)

pub returns : goal.returns
returns c =
    let a = c.args in
    entry_applied a.at a.base a.symbol a.entry (a.w.now, a.trace.now)
    c.read32-tag.ensures c.wrapping_add_u32.ensures.value c.read8-kind.ensures c.wrapping_add_u32-2.ensures.value c.read32-addend.ensures
    (relocate-at a.at a.base a.symbol _ _ _ _
    c.tag_to_address.ensures c.in-Some.is c.from.ensures c.apply_relocation.ensures)
