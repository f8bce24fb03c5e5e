use Rattle.register.proofs.append.Laws.{open_not, open_past, open_is}
use Rattle.register.proofs.append.draft.is_open.Goals as goal

pub returns-then-not-fits : goal.returns-then-not-fits
returns-then-not-fits c = open_not _ _ c.fits.ensures c.if-not-fits.true

pub returns-then-room-draft : goal.returns-then-room-draft
returns-then-room-draft c = open_past _ _ c.fits.ensures c.if-not-fits.false c.room.ensures c.if-room-draft.true

pub returns : goal.returns
returns c = open_is _ _ c.fits.ensures c.if-not-fits.false c.room.ensures c.if-room-draft.false
