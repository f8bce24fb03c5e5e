use Rattle.std.proofs.Common.{ap, ◌∙◌}
use Rattle.desk_spec.specs.Command.{replied}
use Rattle.desk.proofs.command.Laws.{initialize-refused, initialize-done, load-refused, load-done, unload-done}
use Rattle.desk.proofs.command.reply_to.Goals as goal

pub returns-then-number-ne0 : goal.returns-then-number-ne0
returns-then-number-ne0 c =
    let a = c.args in
    c.reply_error.ensures ∙ ap (replied a.at a.w.now a.p 0) (initialize-refused a.id a.number a.value c.in-Initialize.is c.if-number-ne0.true)

pub returns-then-number-ne0-2 : goal.returns-then-number-ne0-2
returns-then-number-ne0-2 c =
    let a = c.args in
    c.reply_error-then-number-ne0-2.ensures ∙ ap (replied a.at a.w.now a.p 0) (load-refused a.id a.number a.value c.in-Load.is c.if-number-ne0-2.true)

pub returns-else-number-ne0 : goal.returns-else-number-ne0
returns-else-number-ne0 c =
    let a = c.args in
    c.reply_done.ensures ∙ ap (replied a.at a.w.now a.p 0) (initialize-done a.id a.number a.value c.in-Initialize.is c.if-number-ne0.false)

pub returns-else-number-ne0-2 : goal.returns-else-number-ne0-2
returns-else-number-ne0-2 c =
    let a = c.args in
    c.reply_loaded.ensures ∙ ap (replied a.at a.w.now a.p 0) (load-done a.id a.number a.value c.in-Load.is c.if-number-ne0-2.false)

pub returns-in-Unload : goal.returns-in-Unload
returns-in-Unload c =
    let a = c.args in
    c.reply_done-in-Unload.ensures ∙ ap (replied a.at a.w.now a.p 0) (unload-done a.id a.number a.value c.in-Unload.is)
