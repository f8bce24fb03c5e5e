-- By whether the register knows the static module: `unlisted_none`, `unlisted_known`.
use Rattle.std.proofs.Common.{sym, ◌∙◌}
use Rattle.linker.specs.Calls.Left.{unlisted_none, unlisted_known}
use Rattle.linker.proofs.calls.unlist.Goals as goal

pub returns-in_default : goal.returns-in_default
returns-in_default c =
    let a = c.args in
    unlisted_none a.at a.base (a.w.now, a.trace.now) (sym c.read_crs.ensures ∙ c.in_default.is)

pub returns : goal.returns
returns c =
    let a = c.args in
    unlisted_known a.at a.base (a.w.now, a.trace.now) _ (sym c.read_crs.ensures ∙ c.in-Some.is) c.unregister.ensures
