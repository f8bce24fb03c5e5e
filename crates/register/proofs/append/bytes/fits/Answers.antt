use Rattle.register.proofs.append.Laws.{fits_not, fits_is}
use Rattle.register.proofs.append.bytes.fits.Goals as goal

pub returns-then-free-count : goal.returns-then-free-count
returns-then-free-count c = fits_not _ _ _ c.if-free-count.true

pub returns : goal.returns
returns c = fits_is _ _ _ c.if-free-count.false
