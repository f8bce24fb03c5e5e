use Rattle.std.proofs.Common.{◌≡◌, ◌+◌, ◌-◌, ap, ◌∙◌, arith}
use Rattle.register.specs.Module.{ascending}
use Rattle.register.proofs.ExportLoops.{all_exports}
use Rattle.register_test.proofs.ascending.Laws.{ascending-stop, ascending_goes, ascending_end}
use Rattle.register_test.proofs.ascending.ascending_exports.Goals as goal

pub returns-then-n-eq0 : goal.returns-then-n-eq0
returns-then-n-eq0 c = ascending_end _ _ _ 0 (omega arith) ∙ ap ascending (all_exports c.args.exports.now c.args.names.now)

pub loop-k-init : goal.loop-k-init
loop-k-init c = (c.export_name-last.ensures, ap ascending (all_exports c.args.exports.now c.args.names.now))

pub returns-then-not-is_before : goal.returns-then-not-is_before
returns-then-not-is_before c =
    let here : c.loop-k.k - 1 + 1 ≡ c.loop-k.k = omega arith in
    ascending-stop _ _ _ (c.loop-k.k - 1) _ _ _ (omega arith) c.loop-k.invariant.0 (rw here c.export_name-name.ensures)
    c.is_before.ensures c.if-not-is_before.true ∙ c.loop-k.invariant.1

pub loop-k-preserved : goal.loop-k-preserved
loop-k-preserved c =
    let here : c.loop-k.k - 1 + 1 ≡ c.loop-k.k = omega arith in
    let next : c.loop-k.k + 1 - 1 ≡ c.loop-k.k - 1 + 1 = omega arith in (
      rw (next, here) c.export_name-name.ensures,
      rw next
          (ascending_goes _ _ _ (c.loop-k.k - 1) _ _ _ (omega arith) c.loop-k.invariant.0 (rw here c.export_name-name.ensures)
          c.is_before.ensures c.if-not-is_before.false) ∙ c.loop-k.invariant.1,
    )

pub returns : goal.returns
returns c = ascending_end _ _ _ (c.loop-k.k - 1) (omega arith) ∙ c.loop-k.invariant.1
