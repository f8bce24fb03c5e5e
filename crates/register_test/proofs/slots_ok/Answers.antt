use Prim.Native.Nat.{◌+◌, ◌*◌}
use mathlib.Core.Path.{◌≡◌, ◌∙◌}
use native.Mathlib.Omega.{arith}
use Rattle.register_test.proofs.Laws.{slot_bad, slot_on, slots_end}
use Rattle.register_test.proofs.slots_ok.Goals as goal

pub returns-then-not-slot_ok : goal.returns-then-not-slot_ok
returns-then-not-slot_ok c =
    slot_bad c.args.missing.now _ _ (514 * c.loop-k.k) c.loop-k-test.true c.slot_ok.ensures c.if-not-slot_ok.true
    ∙ c.loop-k.invariant

pub loop-k-preserved : goal.loop-k-preserved
loop-k-preserved c =
    let next : 514 * (c.loop-k.k + 1) ≡ 514 * c.loop-k.k + 514 = omega arith in
    rw next (slot_on c.args.missing.now _ _ (514 * c.loop-k.k) c.loop-k-test.true c.slot_ok.ensures c.if-not-slot_ok.false)
    ∙ c.loop-k.invariant

pub returns : goal.returns
returns c = slots_end c.args.missing.now _ _ (514 * c.loop-k.k) c.loop-k-test.false ∙ c.loop-k.invariant
