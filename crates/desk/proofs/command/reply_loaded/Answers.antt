use Rattle.std.proofs.Common.{◌*◌, ap, ◌∙◌}
use Rattle.window.specs.Memory.{◌⊕◌, put_word}
use Rattle.desk.proofs.command.Laws.{replied_3}
use Rattle.desk.proofs.command.reply_loaded.Goals as goal

pub returns : goal.returns
returns c =
    let a = c.args in
    replied_3 a.at a.p a.w.now _ _ _ _ 0 a.fixed (c.set.ensures ∙ ap (put_word a.at a.w.now (a.p ⊕ 4 * 0)) c.header.ensures) c.set-2.ensures c.set-3.ensures
