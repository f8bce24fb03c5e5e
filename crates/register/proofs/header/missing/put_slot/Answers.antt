use Rattle.std.proofs.Common.{◌≡◌, suc, ◌+◌, arith, length-set}
use Rattle.register.specs.Change.Bytes.{put_slot}
use Rattle.register.proofs.header.missing.put_slot.Goals as goal

pub bounds-missing-place-2 : goal.bounds-missing-place-2
bounds-missing-place-2 c = simp length-set (omega arith)

pub returns : goal.returns
unfolding put_slot
returns c = let p = c.args.place in
    let e₁ : p + 1 ≡ suc p = omega arith in
    let e₂ : p + 2 ≡ suc (suc p) = omega arith in
    rw (c.copy_into.ensures, e₁, e₂)
