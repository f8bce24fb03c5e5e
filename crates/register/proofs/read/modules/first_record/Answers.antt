use Rattle.std.proofs.Common.{◌∙◌, arith, subst}
use Rattle.register.specs.Read.Walk.{walk_starts, walk_ends, place_none, unwrapped}
use Rattle.register.proofs.read.Searches.{end_fits, taken_here, taken_on}
use Rattle.register.proofs.read.modules.first_record.Given as given
use Rattle.register.proofs.read.modules.first_record.Goals as goal

pub loop-k-init : goal.loop-k-init
loop-k-init g c = λ names takes e tells. walk_starts _ _ names e

pub returns-then-test : goal.returns-then-test
returns-then-test g c =
    let a = c.args in
    λ names takes e tells.
    taken_here a.records.now names c.loop-k.place c.loop-k.k (omega arith) c.record_at-record.ensures takes
    (λ m s. tells c.loop-k.place m _ s (subst (λ r. given.F-post g a.test r c.test.result) c.record_at-record.ensures c.test.ensures))
    (c.loop-k.invariant names takes e tells) c.if-test.true

pub loop-k-preserved : goal.loop-k-preserved
loop-k-preserved g c =
    let a = c.args in
    λ names takes e tells.
    let w = c.loop-k.invariant names takes e tells in
    let f = end_fits a.records.now names c.loop-k.place c.loop-k.k (omega arith) c.record_at-record.ensures _ w in
    taken_on a.records.now names c.loop-k.place c.loop-k.k (omega arith) c.record_at-record.ensures takes
    (λ m s. tells c.loop-k.place m _ s (subst (λ r. given.F-post g a.test r c.test.result) c.record_at-record.ensures c.test.ensures))
    w (unwrapped c.record_end-place.ensures (omega (arith, f))) c.if-test.false

pub returns : goal.returns
returns g c = λ names takes e tells. place_none _ _ ∙ walk_ends _ _ _ (c.loop-k.invariant names takes e tells) (omega arith)
