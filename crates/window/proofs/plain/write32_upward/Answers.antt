use Rattle.std.proofs.Common.{refl, ◌∙◌, arith, length-set, rules}
use Rattle.window.specs.Memory.{put_privileged}
use Rattle.window.proofs.Laws.{upward_turn, upward_stop, upward_done}
use Rattle.window.proofs.plain.write32_upward.Goals as goal

pub loop-k-init : goal.loop-k-init
loop-k-init c = (search rules, refl, search rules, refl)

pub returns-then-w-i : goal.returns-then-w-i
unfolding put_privileged
returns-then-w-i c =
    upward_stop 4 _ _ _ _ _ c.place_of-i.ensures c.if-w-i.true ∙ c.loop-k.invariant.3

pub loop-k-preserved : goal.loop-k-preserved
loop-k-preserved c = (
  search rules,
  simp length-set c.loop-k.invariant.1,
  omega arith,
  upward_turn 4 _ _ _ _ _ (search rules) c.place_of-i.ensures (search rules) c.wrapping_add_u32-y.ensures.value
      ∙ c.loop-k.invariant.3,
)

pub returns : goal.returns
unfolding put_privileged
returns c = upward_done 4 _ _ _ _ _ (search rules) ∙ c.loop-k.invariant.3
