use Rattle.std.proofs.Common.{le-ltb, lt-ltb}
use Rattle.register.specs.Change.Bytes.{set_crs}
use Rattle.register.proofs.header.crs.set_crs.Goals as goal

pub returns-then-records-lt32 : goal.returns-then-records-lt32
unfolding set_crs
returns-then-records-lt32 c = rw (lt-ltb _ _ c.if-records-lt32.true)

pub returns : goal.returns
unfolding set_crs
returns c =
    rw (c.store32-2.ensures, c.store32.ensures, le-ltb _ _ c.if-records-lt32.false)
