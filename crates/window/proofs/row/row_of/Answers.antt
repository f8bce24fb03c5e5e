-- Test by test: `row_of`.
use Rattle.std.proofs.Common.{arith}
use Rattle.window.specs.Bytes.{place-small}
use Rattle.window.proofs.row.Laws.{row_wraps, row_ends, row-there}
use Rattle.window.proofs.row.row_of.Goals as goal

pub overflow_sub-place : goal.overflow_sub-place
overflow_sub-place c =
    let a = c.args in
    omega (arith, c.place_of-place.ensures, place-small a.at a.x)

pub returns-then-place-count : goal.returns-then-place-count
returns-then-place-count c =
    let a = c.args in
    row_wraps a.at a.n a.x a.count c.place_of-place.ensures c.if-place-count.true

pub returns-then-n-place : goal.returns-then-n-place
returns-then-n-place c =
    let a = c.args in
    row_ends a.at a.n a.x a.count c.place_of-place.ensures c.if-place-count.false c.if-n-place.true

pub returns : goal.returns
returns c =
    let a = c.args in
    row-there a.at a.n a.x a.count c.place_of-place.ensures c.if-place-count.false c.if-n-place.false
