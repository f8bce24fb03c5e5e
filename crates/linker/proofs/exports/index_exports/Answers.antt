use Rattle.std.proofs.Common.{arith}
use Rattle.linker.specs.Exports.Exported.{for_all, not-begun, not_filled, finished_all}
use Rattle.linker.proofs.exports.index_exports.Goals as goal

pub returns-in_err-first : goal.returns-in_err-first
returns-in_err-first c =
    let a = c.args in
    rw c.from_residual.ensures (for_all a.records.now a.names.now _ _ _ _ c.requires
    (λ missing h. not-begun a.at a.w.now a.records.now a.names.now a.base a.size a.auto_link
    (λ i. omega (arith, c.slice_known-1.given i)) (omega (arith, c.ranges.base)) (omega (arith, c.ranges.size))
    missing h _ _ _ c.begin.ensures c.in_err-first.was))

pub returns-in_err-last : goal.returns-in_err-last
returns-in_err-last c =
    let a = c.args in
    rw c.from_residual-in_err-last.ensures (for_all a.records.now a.names.now _ _ _ _ c.requires
    (λ missing h. not_filled a.at a.w.now a.records.now a.names.now a.base a.size a.auto_link
    (λ i. omega (arith, c.slice_known-1.given i)) (omega (arith, c.ranges.base))
    (omega (arith, c.ranges.size)) missing h _ _ _ c.begin.ensures _ c.in_ok-first.was _ _ _
    c.add_lists.ensures c.in_err-last.was))

pub returns : goal.returns
returns c =
    let a = c.args in
    for_all a.records.now a.names.now _ _ _ _ c.requires
    (λ missing h. finished_all a.at a.w.now a.records.now a.names.now a.base a.size a.auto_link
    (λ i. omega (arith, c.slice_known-1.given i)) (omega (arith, c.ranges.base))
    (omega (arith, c.ranges.size)) missing h _ _ _ c.begin.ensures _
    c.in_ok-first.was _ _ _ c.add_lists.ensures _ c.in_ok-last.was
    c.finish_record.ensures)
