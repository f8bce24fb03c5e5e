use Rattle.std.proofs.Common.{take, sym, ap, ◌∙◌, arith, length-take-le, take_all}
use Rattle.register.specs.Words.{part}
use Rattle.register.proofs.read.bytes_at.Goals as goal

pub returns-then-rest-count : goal.returns-then-rest-count
unfolding part
returns-then-rest-count c =
    let b = c.bytes_from-rest in
    let n = c.args.count in
    sym (take_all n b.result.now (omega arith)) ∙ ap (take n) b.ensures

pub slice_bounds-result-end : goal.slice_bounds-result-end
slice_bounds-result-end c = sym (length-take-le _ _ c.if-rest-count.false)

pub returns : goal.returns
unfolding part
returns c = ap (take c.args.count) c.bytes_from-rest.ensures
