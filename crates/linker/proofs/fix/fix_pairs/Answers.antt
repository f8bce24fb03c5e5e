-- A counted loop that hands the end on: `turn_made`, `turns-over`.
use Rattle.std.proofs.Common.{refl, ◌∙◌, arith}
use Rattle.linker_spec.specs.Fix.{fix_pair}
use Rattle.window.specs.TraceRuns.{turn_made, turns-over}
use Rattle.linker.proofs.fix.fix_pairs.Goals as goal

pub loop-i-init : goal.loop-i-init
loop-i-init c = (omega arith, refl, refl, refl)

pub loop-i-preserved : goal.loop-i-preserved
loop-i-preserved c =
    let a = c.args in (
      omega arith,
      c.fix_pair-last.auto.w ∙ c.loop-i.invariant.1,
      turn_made a.at (fix_pair a.base a.barrier) c.loop-i.i 15 c.loop-i.last (c.loop-i.w, c.loop-i.trace) c.loop-i.invariant.2 c.loop-i-test.true
          c.fix_pair-last.ensures,
      c.fix_pair-last.auto.trace ∙ c.loop-i.invariant.3,
    )

pub returns : goal.returns
returns c =
    let a = c.args in
    turns-over a.at (fix_pair a.base a.barrier) c.loop-i.i 15 c.loop-i.last (c.loop-i.w, c.loop-i.trace) c.loop-i.invariant.2 c.loop-i-test.false
