-- In a row inside the name is copied, `row_laid`, and the trace stays. The invariant elsewhere: the bytes in the buffer and the name
-- still to be read from p on are the name; the rest of the buffer is as at entry.
use Rattle.std.proofs.Common.{◌≡◌, ◌<◌, ◌≤◌, length, take, refl, ap, ◌∙◌, arith, length-set}
use Rattle.window.specs.Name.{name_some}
use Rattle.window.proofs.name.Laws.{name_nothing, name_end, name-next, name_full, behind, all_laid, laid-turn, laid-rest, row_inside, row_laid}
use Rattle.window.proofs.name.read_into.Goals as goal

pub returns-then-address-eq0 : goal.returns-then-address-eq0
returns-then-address-eq0 c =
    let a = c.args in
    let e = name_nothing a.at a.address (a.w.now, a.trace.now) c.if-address-eq0.true in
    all_laid 0 _ _ (omega arith) refl e refl

pub returns-then-in_row : goal.returns-then-in_row
returns-then-in_row c =
    let a = c.args in
    let r = c.in_row.ensures c.if-in_row.true in (
      row_laid a.at a.address a.w.now a.trace.now c.place_of-i.ensures r.0 r.1 c.if-address-eq0.false _
          c.copy_name.ensures,
      row_inside a.at a.address a.w.now a.trace.now c.place_of-i.ensures r.0 r.1 c.if-address-eq0.false,
    )

pub returns-then-b-eq0 : goal.returns-then-b-eq0
returns-then-b-eq0 c =
    let l = c.loop-n in
    let h : l.n ≤ length l.buffer = omega arith in
    let e = name_end _ 512 _ _ _ c.loop-n-test.true c.read8-b.ensures c.if-b-eq0.true in
    rw (name_some _ c.if-address-eq0.false) (all_laid _ _ _ h l.invariant.2 e l.invariant.3)

pub loop-n-preserved : goal.loop-n-preserved
loop-n-preserved c =
    let l = c.loop-n in
    let h : l.n < length l.buffer = omega arith in
    let e = name-next _ 512 _ _ _ c.loop-n-test.true c.read8-b.ensures c.if-b-eq0.false c.wrapping_add_u32-p.ensures.value in (
      simp length-set l.invariant.0,
      c.read8-b.auto.trace ∙ l.invariant.1,
      laid-turn _ _ _ _ h ∙ ap (behind (take l.n l.buffer)) e ∙ l.invariant.2,
      laid-rest l.n l.buffer _ c.read8-b.result l.invariant.3,
    )

pub returns : goal.returns
returns c =
    let l = c.loop-n in
    let h : l.n ≤ length l.buffer = omega arith in
    let n : 512 ≡ l.n = omega arith in
    let e = name_full _ 512 _ _ _ c.loop-n-test.false in
    let r = all_laid l.n l.buffer c.args.buffer.now h l.invariant.2 e l.invariant.3 in
    rw (name_some _ c.if-address-eq0.false) (ap (λ k. (k, l.buffer)) n ∙ r.0, r.1)
