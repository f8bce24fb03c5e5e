-- By whether the module exported the name.
use Rattle.register.specs.Read.Read.{module_at}
use Rattle.linker.proofs.resets.Laws.{named_kept, named-reset}
use Rattle.linker.proofs.resets.reset_named.Goals as goal

pub returns-in_default : goal.returns-in_default
returns-in_default c =
    let a = c.args in
    let m = module_at a.records.now a.names.now a.place in
    named_kept a.at a.base a.handler a.entry (a.w.now, a.trace.now) c.read32-address.ensures c.export_of.ensures.1 m c.export_of.ensures.0
    c.in_default.is

pub returns : goal.returns
returns c =
    let a = c.args in
    let m = module_at a.records.now a.names.now a.place in
    named-reset a.at a.base a.handler a.entry (a.w.now, a.trace.now) c.read32-address.ensures c.export_of.ensures.1 m c.export_of.ensures.0
    c.in-Some.is c.reset_at.ensures
