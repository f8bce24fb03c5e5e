use Rattle.std.proofs.Common.{arith}
use Rattle.register.proofs.header.Laws.{takes_lengths, push_shut, push_many, push_one}
use Rattle.register.proofs.header.missing.push_missing.Goals as goal

pub returns-then-not-takes_name : goal.returns-then-not-takes_name
returns-then-not-takes_name c = push_shut _ _ _ c.takes_name.ensures c.if-not-takes_name.true

pub load32-count-requires : goal.load32-count-requires
load32-count-requires c =
    let h = takes_lengths _ _ _ c.takes_name.ensures c.if-not-takes_name.false in
    omega (arith, h.0)

pub returns-then-count-ge64 : goal.returns-then-count-ge64
returns-then-count-ge64 c =
    push_many _ _ _ c.takes_name.ensures c.if-not-takes_name.false c.load32-count.ensures
    c.if-count-ge64.true

pub put_slot-requires : goal.put_slot-requires
put_slot-requires c =
    let h = takes_lengths _ _ _ c.takes_name.ensures c.if-not-takes_name.false in
    (omega (arith, h.1), h.2)

pub store32-requires : goal.store32-requires
store32-requires c =
    let h = takes_lengths _ _ _ c.takes_name.ensures c.if-not-takes_name.false in
    omega (arith, h.0)

pub returns : goal.returns
returns c =
    push_one _ _ _ c.takes_name.ensures c.if-not-takes_name.false c.load32-count.ensures
    c.if-count-ge64.false c.put_slot.ensures c.store32.ensures
