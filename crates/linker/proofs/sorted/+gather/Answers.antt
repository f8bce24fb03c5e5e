-- The halves are sorted one after the other, the second in the bytes behind the first; the measure is how many entries there are.
use Rattle.std.proofs.Common.{◌≡◌, ◌+◌, ◌-◌, ◌*◌, ◌/◌, ◌≤◌, length, ap, ◌∙◌, subst, arith}
use Rattle.linker.specs.Exports.Puts.{named_from, from_parts}
use Rattle.linker.specs.Exports.Sorted.{Sorted}
use Rattle.linker.proofs.sorted.Laws.{none_from, left_kept, right_back}
use Rattle.linker.proofs.sorted.+gather.Goals as goal

pub returns-then-count-eq0 : goal.returns-then-count-eq0
returns-then-count-eq0 t c =
    let a = c.args in
    (omega arith, λ h. none_from a.at a.w.now a.base a.from a.count _ c.if-count-eq0.true)

pub returns : goal.returns
returns t c =
    let a = c.args in
    let left = c.gather-left.result in
    let half = a.count / 2 in
    let items = c.gather-left.new.items in
    let new = c.gather-right.new.items in
    let r : 8 * left ≤ length items = omega (arith, c.gather-left.ensures.0, c.gather-left.auto.items) in
    let n : half + (a.count - half) ≡ a.count = omega arith in (
      omega (arith, c.merge.ensures.0, c.gather-left.ensures.0, c.gather-right.ensures.0),
      λ h. subst (λ xs. Sorted a.at a.w.now xs c.merge.result c.merge.new.items)
          (from_parts a.at a.w.now a.base a.from half (a.count - half) ∙ ap (named_from a.at a.w.now a.base a.from) n)
          (c.merge.ensures.1 _ _ (left_kept a.at a.w.now left items new c.gather-right.auto.items r (c.gather-left.ensures.1 h))
          (right_back a.at a.w.now left items new c.gather-right.auto.items r (c.gather-right.ensures.1 h))),
    )
