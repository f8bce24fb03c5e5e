-- By whether the register knows the static module: `listed_none`, `listed_known`.
use Rattle.std.proofs.Common.{sym, ◌∙◌}
use Rattle.linker.specs.Calls.Linked.{listed_none, listed_known}
use Rattle.linker.proofs.calls.list.Goals as goal

pub returns-in_default : goal.returns-in_default
returns-in_default c =
    let a = c.args in
    listed_none a.at a.base a.auto_link (a.w.now, a.trace.now) (sym c.read_crs.ensures ∙ c.in_default.is)

pub returns : goal.returns
returns c =
    let a = c.args in
    listed_known a.at a.base a.auto_link (a.w.now, a.trace.now) _ (sym c.read_crs.ensures ∙ c.in-Some.is) c.register.ensures
