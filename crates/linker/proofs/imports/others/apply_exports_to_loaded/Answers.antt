-- A walk over the records: `record_walk_starts`, `served-turn`, `served-all`.
use Rattle.std.proofs.Common.{◌-◌, refl, ◌∙◌, arith}
use Rattle.window.specs.Trace.{run_t}
use Rattle.register.specs.Read.Read.{modules_of, module_at}
use Rattle.register.specs.Read.Walk.{unwrapped}
use Rattle.linker_spec.specs.Imports.{apply_exports_to_loaded}
use Rattle.linker.specs.Imports.Modules.{but_last}
use Rattle.linker.proofs.imports.Walks.{serving, served-turn, served-all}
use Rattle.linker.specs.Sources.Walks.{record_walk_starts, record_walk-fits}
use Rattle.linker.proofs.imports.others.apply_exports_to_loaded.Goals as goal

pub loop-k-init : goal.loop-k-init
loop-k-init c =
    let a = c.args in
    let m = module_at a.records.now a.names.now a.place in
    (refl, record_walk_starts (serving a.at m) a.records.now a.names.now (a.w.now, a.trace.now) c.requires.encoded, refl)

pub loop-k-preserved : goal.loop-k-preserved
loop-k-preserved c =
    let a = c.args in
    let m = module_at a.records.now a.names.now a.place in
    let end = run_t a.at (apply_exports_to_loaded m (but_last (modules_of a.records.now a.names.now))) (a.w.now, a.trace.now) in
    let f =
    record_walk-fits (serving a.at m) a.records.now a.names.now c.loop-k.next (c.loop-k.k - 1) (c.loop-k.w, c.loop-k.trace)
    {end = end} c.loop-k.invariant.1 (omega (arith, c.loop-k-test.true, c.module_count-count.ensures)) c.record_at-record.ensures in (
      c.serve.auto.w ∙ c.loop-k.invariant.0,
      served-turn a.at m a.records.now a.names.now c.loop-k.next
          c.loop-k.k (c.loop-k.w, c.loop-k.trace) {end = end} c.loop-k.invariant.1 (omega arith) (omega (arith, c.loop-k-test.true, c.module_count-count.ensures))
          c.record_at-record.ensures (unwrapped c.record_end-next.ensures (omega (arith, f, c.ranges.place))) c.serve.ensures,
      c.serve.auto.trace ∙ c.loop-k.invariant.2,
    )

pub returns : goal.returns
returns c =
    let a = c.args in
    let m = module_at a.records.now a.names.now a.place in
    let end = run_t a.at (apply_exports_to_loaded m (but_last (modules_of a.records.now a.names.now))) (a.w.now, a.trace.now) in
    served-all a.at m a.records.now a.names.now c.loop-k.next (c.loop-k.k - 1) (c.loop-k.w, c.loop-k.trace) {end = end} c.loop-k.invariant.1
    (omega (arith, c.loop-k-test.false, c.module_count-count.ensures))
