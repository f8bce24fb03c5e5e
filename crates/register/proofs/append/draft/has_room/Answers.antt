use Rattle.register.proofs.append.Laws.{no_words-fit, names-fit}
use Rattle.register.proofs.append.draft.has_room.Goals as goal

pub returns-then-not-fits : goal.returns-then-not-fits
returns-then-not-fits c = no_words-fit _ _ _ _ c.room.ensures c.fits.ensures c.if-not-fits.true

pub returns : goal.returns
returns c =
    names-fit _ _ _ _ c.room.ensures c.fits.ensures
    c.if-not-fits.false c.room-2.ensures c.fits-2.ensures
