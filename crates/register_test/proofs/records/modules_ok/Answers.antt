use mathlib.Core.Path.{◌∙◌}
use native.Mathlib.Omega.{arith}
use Rattle.register_test.proofs.records.Loops.{place-fits, modules_more, modules_done, modules_bad, modules_on}
use Rattle.register.proofs.Laws.{rest_of}
use Rattle.register_test.proofs.records.modules_ok.Goals as goal

pub returns-in-None : goal.returns-in-None
returns-in-None c = modules_bad _ c.args.records.now _ _
    c.loop-k.place _ c.loop-k-test.true _
    (rest_of c.args.records.now
    c.loop-k.place) c.module_end.ensures c.in-None.is
    ∙ c.loop-k.invariant.2

pub overflow_mul-place : goal.overflow_mul-place
overflow_mul-place c = let h =
    place-fits c.args.records.now _ _
    c.loop-k.place _
    c.loop-k.invariant.1
    (rest_of c.args.records.now
    c.loop-k.place) c.module_end.ensures
    c.in-Some.is c.module_size.ensures in omega arith

pub overflow_add-place : goal.overflow_add-place
overflow_add-place c = let h =
    place-fits c.args.records.now _ _
    c.loop-k.place _
    c.loop-k.invariant.1
    (rest_of c.args.records.now
    c.loop-k.place) c.module_end.ensures
    c.in-Some.is c.module_size.ensures in omega arith

pub loop-k-preserved : goal.loop-k-preserved
loop-k-preserved c = let h =
    place-fits c.args.records.now _ _
    c.loop-k.place _
    c.loop-k.invariant.1
    (rest_of c.args.records.now
    c.loop-k.place) c.module_end.ensures
    c.in-Some.is c.module_size.ensures in (
      omega arith,
      h,
      modules_on _ _ _ _ _ _ c.loop-k-test.true _
          (rest_of c.args.records.now
          c.loop-k.place) c.module_end.ensures
          c.in-Some.is c.module_size.ensures
          ∙ c.loop-k.invariant.2,
    )

pub returns-then-records-place : goal.returns-then-records-place
returns-then-records-place c = modules_more _ _ _ _ _ _ c.loop-k-test.false c.loop-k.invariant.0 c.loop-k.invariant.1
    c.if-records-place.true ∙ c.loop-k.invariant.2

pub returns : goal.returns
returns c = modules_done _ _ _ _ _ _ c.loop-k-test.false c.loop-k.invariant.0 c.loop-k.invariant.1 c.if-records-place.false
    ∙ c.loop-k.invariant.2
