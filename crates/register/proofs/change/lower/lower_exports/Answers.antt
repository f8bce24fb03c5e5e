use Rattle.std.proofs.Common.{◌≡◌, ◌+◌, ◌*◌, ◌∙◌, arith}
use Rattle.register.proofs.change.Laws.{exports_turn, exports_end_lem}
use Rattle.register.proofs.change.lower.lower_exports.Goals as goal

pub loop-k-preserved : goal.loop-k-preserved
loop-k-preserved c =
    let a = c.args in
    let l = c.loop-k in
    let next : a.place + 12 * (l.k + 1) ≡ a.place + 12 * l.k + 12 = omega arith in (
      omega (arith, c.lower_word.auto.bytes, l.invariant.0),
      rw (next, c.lower_word.ensures) (exports_turn a.count l.k _ (a.place + 12 * l.k) a.d c.loop-k-test.true) ∙ l.invariant.1,
    )

pub returns : goal.returns
returns c = exports_end_lem c.args.count c.loop-k.k _ _ c.args.d c.loop-k-test.false ∙ c.loop-k.invariant.1
