-- By whose record it is, and whether it is auto-linked.
use Rattle.register.specs.Read.Read.{module_at}
use Rattle.linker.proofs.resets.Walks.{itself, linked, unlinked}
use Rattle.linker.proofs.resets.reset_importer.Goals as goal

pub returns-then-record-place : goal.returns-then-record-place
returns-then-record-place c =
    let a = c.args in
    let m = module_at a.records.now a.names.now a.place in
    itself a.at a.place m a.record (a.w.now, a.trace.now) c.if-record-place.true

pub returns-then-record-eq1 : goal.returns-then-record-eq1
returns-then-record-eq1 c =
    let a = c.args in
    let m = module_at a.records.now a.names.now a.place in
    linked a.at a.place m a.record (a.w.now, a.trace.now) c.if-record-place.false c.if-record-eq1.true
    c.reset_imports.ensures

pub returns-else-record-eq1 : goal.returns-else-record-eq1
returns-else-record-eq1 c =
    let a = c.args in
    let m = module_at a.records.now a.names.now a.place in
    unlinked a.at a.place m a.record (a.w.now, a.trace.now) c.if-record-place.false c.if-record-eq1.false
