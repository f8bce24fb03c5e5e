use Rattle.std.proofs.Common.{◌*◌, ap, ◌∙◌}
use Rattle.window.specs.Memory.{◌⊕◌, put_word}
use Rattle.desk.proofs.command.Laws.{replied_2}
use Rattle.desk.proofs.command.reply_result.Goals as goal

pub returns : goal.returns
returns c =
    let a = c.args in
    replied_2 a.at a.p a.w.now _ _ _ a.res (c.set.ensures ∙ ap (put_word a.at a.w.now (a.p ⊕ 4 * 0)) c.header.ensures) c.set-2.ensures
