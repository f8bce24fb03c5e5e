use mathlib.Core.Path.{refl, ◌∙◌}
use native.Mathlib.Omega.{arith}
use Rattle.session.proofs.register_lines.Laws.{left_starts, left_goes, left_ends}
use Rattle.session.proofs.register_lines.put_modules.Goals as goal

pub loop-k-init : goal.loop-k-init
loop-k-init c = (refl, left_starts _ _ _ c.requires)

pub loop-k-preserved : goal.loop-k-preserved
loop-k-preserved c =
    let l = c.loop-k in (
      c.put_module.ensures.same ∙ l.invariant.0,
      left_goes _ _ _ l.invariant.1 (omega arith) c.put_module.ensures.text c.record_at.ensures c.record_end-place.ensures
          (omega arith),
    )

pub returns : goal.returns
returns c = record { text = left_ends _ _ _ c.loop-k.invariant.1 (omega arith); same = c.loop-k.invariant.0 }
