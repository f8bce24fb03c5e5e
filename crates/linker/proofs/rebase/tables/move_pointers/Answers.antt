-- By the number of pointers.
use Rattle.linker.proofs.rebase.Laws.{pointers_0, pointers_1, pointers_2, pointers_3}
use Rattle.linker.proofs.rebase.tables.move_pointers.Goals as goal

pub returns-then-t-eq0 : goal.returns-then-t-eq0
returns-then-t-eq0 c =
    let a = c.args in
    pointers_0 a.at a.forward a.base a.entry (a.w.now, a.trace.now) a.t c.if-t-eq0.true

pub returns-then-t-eq1 : goal.returns-then-t-eq1
returns-then-t-eq1 c =
    let a = c.args in
    pointers_1 a.at a.forward a.base a.entry (a.w.now, a.trace.now) a.t c.wrapping_add_u32.ensures.value c.move_word.ensures
    c.if-t-eq1.true

pub returns-then-t-eq2 : goal.returns-then-t-eq2
returns-then-t-eq2 c =
    let a = c.args in
    pointers_2 a.at a.forward a.base a.entry (a.w.now, a.trace.now) a.t
    {s₁ = (c.move_word.new.w, c.move_word.new.trace)} c.wrapping_add_u32.ensures.value c.move_word.ensures
    c.wrapping_add_u32-2.ensures.value c.move_word-2.ensures c.if-t-eq2.true

pub returns : goal.returns
returns c =
    let a = c.args in
    pointers_3 a.at a.forward a.base a.entry (a.w.now, a.trace.now) a.t
    {s₁ = (c.move_word.new.w, c.move_word.new.trace)} c.wrapping_add_u32.ensures.value c.move_word.ensures
    c.wrapping_add_u32-2.ensures.value c.move_word-2.ensures c.if-t-eq0.false c.if-t-eq1.false c.if-t-eq2.false c.wrapping_add_u32-3.ensures.value c.move_word-3.ensures
