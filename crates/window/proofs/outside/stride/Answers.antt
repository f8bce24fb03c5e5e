-- Test by test: `stride_of`.
use Rattle.std.proofs.Common.{refl, arith}
use Rattle.window.specs.Bytes.{place-small}
use Rattle.window.proofs.outside.Laws.{stride_inside, stride_no_size, stride_cut, stride_fits, stride_all}
use Rattle.window.proofs.outside.stride.Goals as goal

pub returns-then-place-n : goal.returns-then-place-n
returns-then-place-n c =
    let a = c.args in
    stride_inside a.at a.n a.entry a.size a.left c.place_of-place.ensures c.if-place-n.true

pub returns-then-size-eq0 : goal.returns-then-size-eq0
returns-then-size-eq0 c =
    let a = c.args in
    stride_no_size a.at a.n a.entry a.size a.left c.place_of-place.ensures c.if-place-n.false c.if-size-eq0.true

pub overflow_sub-fit : goal.overflow_sub-fit
overflow_sub-fit c =
    let a = c.args in
    omega (arith, c.place_of-place.ensures, place-small a.at a.entry)

pub returns-then-fit-lt1 : goal.returns-then-fit-lt1
returns-then-fit-lt1 c =
    let a = c.args in
    stride_cut a.at a.n a.entry a.size a.left c.place_of-place.ensures c.if-place-n.false c.if-size-eq0.false refl c.if-fit-lt1.true

pub returns-then-fit-left : goal.returns-then-fit-left
returns-then-fit-left c =
    let a = c.args in
    stride_fits a.at a.n a.entry a.size a.left c.place_of-place.ensures c.if-place-n.false c.if-size-eq0.false refl c.if-fit-lt1.false c.if-fit-left.true

pub returns : goal.returns
returns c =
    let a = c.args in
    stride_all a.at a.n a.entry a.size a.left c.place_of-place.ensures c.if-place-n.false c.if-size-eq0.false refl c.if-fit-lt1.false c.if-fit-left.false
