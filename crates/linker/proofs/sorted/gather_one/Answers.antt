use Rattle.std.proofs.Common.{arith}
use Rattle.linker.proofs.sorted.Laws.{one-passed, one_added}
use Rattle.linker.proofs.sorted.gather_one.Goals as goal

pub returns-in-None : goal.returns-in-None
returns-in-None c =
    let a = c.args in (
      omega arith,
      λ h. one-passed a.at a.w.now a.base a.i a.table _ _ _ _ c.entry_address-entry.ensures c.wrapping_add_u32.ensures.value c.word.ensures
          c.tag_to_address.ensures h _ c.in-None.is,
    )

pub returns-in-Some : goal.returns-in-Some
returns-in-Some c =
    let a = c.args in (
      omega arith,
      λ h. one_added a.at a.w.now a.base a.i a.table _ _ _ _ c.entry_address-entry.ensures c.wrapping_add_u32.ensures.value c.word.ensures
          c.tag_to_address.ensures h _ _ a.items.now c.in-Some.is c.word-place.ensures c.word-place.type_inv (omega arith) c.requires c.lay.ensures,
    )
