-- Dropped, empty or counted: the three answers of `fix_pair`.
use Rattle.linker.proofs.fix.Laws.{pair_dropped, pair-empty, pair-counted}
use Rattle.linker.proofs.fix.fix_pair.Goals as goal

pub returns-then-x-barrier : goal.returns-then-x-barrier
returns-then-x-barrier c =
    let a = c.args in
    pair_dropped a.at a.base a.barrier a.i a.end (a.w.now, a.trace.now) c.field-table.ensures c.field-count.ensures c.if-x-barrier.true
    c.set_field.ensures

pub returns-then-count-eq0 : goal.returns-then-count-eq0
returns-then-count-eq0 c =
    let a = c.args in
    pair-empty a.at a.base a.barrier a.i a.end (a.w.now, a.trace.now) c.field-table.ensures c.field-count.ensures c.if-x-barrier.false
    c.if-count-eq0.true

pub returns : goal.returns
returns c =
    let a = c.args in
    pair-counted a.at a.base a.barrier a.i a.end (a.w.now, a.trace.now) c.field-table.ensures c.field-count.ensures c.if-x-barrier.false
    c.if-count-eq0.false
    c.table_entry_size.ensures c.entry_address.ensures c.max.ensures
