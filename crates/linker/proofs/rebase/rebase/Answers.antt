-- No magic, a segment refused, or all of it: the laws of `rebase_with` at the segments of a load.
use Rattle.std.proofs.Common.{sym, ap, ◌∙◌}
use Rattle.std.specs.Result.{result_ok}
use Rattle.linker_spec.specs.Rebase.{move_segments}
use Rattle.linker_spec.specs.Calls.{rebase}
use Rattle.linker.proofs.Results.{ok_or-none, err_as}
use Rattle.linker.proofs.rebase.Laws.{rebase-not, rebase_bad, rebase_good}
use Rattle.linker.proofs.rebase.rebase.Goals as goal

pub returns-then-not-is_magic : goal.returns-then-not-is_magic
unfolding rebase
returns-then-not-is_magic c =
    let a = c.args in
    let l = a.lent in
    rebase-not a.at l.base (move_segments l) (a.w.now, a.trace.now) c.field.ensures c.is_magic.ensures c.if-not-is_magic.true

pub returns-in_err-old : goal.returns-in_err-old
unfolding rebase
returns-in_err-old c =
    let a = c.args in
    let l = a.lent in
    let refused = ok_or-none c.move_segments.result (sym c.ok_or.ensures.value ∙ c.in_err-old.was) in
    rw (err_as c.from_residual.result c.in_err-old.field-0.0 c.from_residual.ensures.1, refused.1)
    (rebase_bad a.at l.base (move_segments l) (a.w.now, a.trace.now) c.field.ensures c.is_magic.ensures c.if-not-is_magic.false
    c.move_header.ensures c.move_segments.ensures refused.0)

pub returns : goal.returns
unfolding rebase
returns c =
    let a = c.args in
    let l = a.lent in
    rebase_good a.at l.base (move_segments l) (a.w.now, a.trace.now) c.field.ensures c.is_magic.ensures c.if-not-is_magic.false
    c.move_header.ensures c.move_segments.ensures (c.ok_or.ensures.ok_part ∙ ap result_ok c.in_ok-old.was) c.relocate.ensures
