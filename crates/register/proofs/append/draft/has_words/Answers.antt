use Rattle.std.proofs.Common.{◌+◌, ◌*◌, leb, ap, ◌∙◌}
use Rattle.register.proofs.append.draft.has_words.Goals as goal

pub returns : goal.returns
returns c =
    let a = c.args in
    c.fits.ensures ∙ ap (leb (a.draft.end + 4 * a.count)) c.room.ensures
