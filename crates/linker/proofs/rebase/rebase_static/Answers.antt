-- No magic, or all of it: the laws of `rebase_with` at segments that are only looked at.
use Rattle.std.proofs.Common.{refl, Some}
use Rattle.window.specs.Access.{ret, ◌>>◌}
use Rattle.linker_spec.specs.Rebase.{look_at_segments}
use Rattle.linker_spec.specs.Calls.{rebase_static}
use Rattle.linker.proofs.rebase.Laws.{rebase-not, rebase_good, looked_at}
use Rattle.linker.proofs.rebase.rebase_static.Goals as goal

pub returns-then-not-is_magic : goal.returns-then-not-is_magic
unfolding rebase_static
returns-then-not-is_magic c =
    let a = c.args in
    rebase-not a.at a.base (look_at_segments a.base >> ret (Some 0)) (a.w.now, a.trace.now) c.field.ensures c.is_magic.ensures
    c.if-not-is_magic.true

pub returns : goal.returns
unfolding rebase_static
returns c =
    let a = c.args in
    rebase_good a.at a.base (look_at_segments a.base >> ret (Some 0)) (a.w.now, a.trace.now)
    c.field.ensures c.is_magic.ensures c.if-not-is_magic.false c.move_header.ensures
    (looked_at a.at a.base _ c.look_at_segments.ensures) refl c.relocate.ensures
