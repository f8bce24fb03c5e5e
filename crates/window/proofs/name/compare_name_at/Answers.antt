-- What a row of 512 bytes inside begins with is the name, `name-ended`.
use Rattle.std.proofs.Common.{◌≡◌, ◌+◌, ◌-◌, take, drop, ap, ◌∙◌, arith}
use Rattle.window.specs.Name.{order_of, ended, name-ended}
use Rattle.window.proofs.name.compare_name_at.Goals as goal

pub overflow_add-i : goal.overflow_add-i
overflow_add-i c = let r = c.in_row.ensures c.if-in_row.true in omega arith

pub slice_bounds-compare_ended-end : goal.slice_bounds-compare_ended-end
slice_bounds-compare_ended-end c = let r = c.in_row.ensures c.if-in_row.true in omega arith

pub returns-then-in_row : goal.returns-then-in_row
returns-then-in_row c z =
    let a = c.args in
    let r = c.in_row.ensures c.if-in_row.true in
    let n : c.place_of-i.result + 512 - c.place_of-i.result ≡ 512 = omega arith in
    c.compare_ended.ensures z
    ∙ ap (order_of a.name.now)
    (ap (λ k. ended (take k (drop c.place_of-i.result a.w.now))) n
    ∙ name-ended a.at a.address a.w.now _ c.place_of-i.ensures c.if-address-ne0.true r.0 r.1)
