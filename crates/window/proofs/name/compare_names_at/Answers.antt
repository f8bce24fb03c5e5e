-- What a row of 512 bytes inside begins with is the name, `name-ended`; elsewhere the first name is copied.
use Rattle.std.proofs.Common.{◌≡◌, ◌+◌, ◌-◌, take, drop, ap, ◌∙◌, arith}
use Rattle.window.specs.Name.{order_of, ended, name-ended}
use Rattle.window.proofs.name.compare_names_at.Goals as goal

pub overflow_add-i : goal.overflow_add-i
overflow_add-i c = let r = c.in_row.ensures c.if-not-in_row.false in omega arith

pub slice_bounds-compare_rows-end : goal.slice_bounds-compare_rows-end
slice_bounds-compare_rows-end c = let r = c.in_row.ensures c.if-not-in_row.false in omega arith

pub overflow_add-j : goal.overflow_add-j
overflow_add-j c = let r = c.in_row-else-second-eq0.ensures c.if-not-in_row-2.false in omega arith

pub slice_bounds-compare_rows-end-2 : goal.slice_bounds-compare_rows-end-2
slice_bounds-compare_rows-end-2 c = let r = c.in_row-else-second-eq0.ensures c.if-not-in_row-2.false in omega arith

pub returns : goal.returns
returns c =
    let a = c.args in
    let i = c.place_of-i.result in
    let j = c.place_of-j.result in
    let r = c.in_row.ensures c.if-not-in_row.false in
    let s = c.in_row-else-second-eq0.ensures c.if-not-in_row-2.false in
    let n : i + 512 - i ≡ 512 = omega arith in
    let m : j + 512 - j ≡ 512 = omega arith in
    c.compare_rows.ensures
    ∙ ap (λ k. order_of (ended (take k (drop i a.w.now))) (ended (take (j + 512 - j) (drop j a.w.now)))) n
    ∙ ap (λ k. order_of (ended (take 512 (drop i a.w.now))) (ended (take k (drop j a.w.now)))) m
    ∙ ap (λ t. order_of t (ended (take 512 (drop j a.w.now)))) (name-ended a.at a.first a.w.now i c.place_of-i.ensures c.if-first-eq0.false r.0 r.1)
    ∙ ap (order_of _) (name-ended a.at a.second a.w.now j c.place_of-j.ensures c.if-second-eq0.false s.0 s.1)
