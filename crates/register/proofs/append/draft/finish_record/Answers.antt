use Rattle.std.proofs.Common.{arith}
use Rattle.register.proofs.append.Laws.{open_places, finish_shut, finish_done}
use Rattle.register.proofs.append.draft.finish_record.Goals as goal

pub returns-then-not-is_open : goal.returns-then-not-is_open
returns-then-not-is_open c = finish_shut _ _ c.is_open.ensures c.if-not-is_open.true

pub load32-count-requires : goal.load32-count-requires
load32-count-requires c = let h = open_places _ _ c.is_open.ensures c.if-not-is_open.false in omega (arith, h.0, h.1)

pub store32-requires : goal.store32-requires
store32-requires c = let h = open_places _ _ c.is_open.ensures c.if-not-is_open.false in omega (arith, h.0, h.1)

pub overflow_cast-draft : goal.overflow_cast-draft
overflow_cast-draft c = let h = open_places _ _ c.is_open.ensures c.if-not-is_open.false in omega (arith, h.2)

pub store32-requires-2 : goal.store32-requires-2
store32-requires-2 c =
    let h = open_places _ _ c.is_open.ensures c.if-not-is_open.false in
    omega (arith, h.0, h.1, c.store32.auto.w)

pub overflow_cast-draft-2 : goal.overflow_cast-draft-2
overflow_cast-draft-2 c = let h = open_places _ _ c.is_open.ensures c.if-not-is_open.false in omega (arith, h.3)

pub store32-requires-3 : goal.store32-requires-3
store32-requires-3 c =
    let h = open_places _ _ c.is_open.ensures c.if-not-is_open.false in
    omega (arith, h.0, h.1, c.store32-2.auto.w, c.store32.auto.w)

pub returns : goal.returns
returns c =
    finish_done _ _ c.is_open.ensures c.if-not-is_open.false c.load32-count.ensures c.wrapping_add_u32.ensures.value
    c.store32.ensures c.store32-2.ensures c.store32-3.ensures
