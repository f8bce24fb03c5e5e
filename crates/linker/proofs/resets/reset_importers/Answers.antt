-- A walk over the records: `record_walk_starts`, `reset-next`, `reset-all`.
use Rattle.std.proofs.Common.{refl, ◌∙◌, arith}
use Rattle.register.specs.Read.Read.{module_at}
use Rattle.register.specs.Read.Walk.{unwrapped}
use Rattle.linker.specs.Sources.Walks.{record_walk_starts, record_walk-fits}
use Rattle.linker.proofs.resets.Walks.{resetting, reset-next, reset-all}
use Rattle.linker.proofs.resets.reset_importers.Goals as goal

pub loop-k-init : goal.loop-k-init
loop-k-init c =
    let a = c.args in
    let m = module_at a.records.now a.names.now a.place in
    (refl, record_walk_starts (resetting a.at m a.place) a.records.now a.names.now (a.w.now, a.trace.now) c.requires.encoded, refl)

pub loop-k-preserved : goal.loop-k-preserved
loop-k-preserved c =
    let a = c.args in
    let m = module_at a.records.now a.names.now a.place in
    let f =
    record_walk-fits (resetting a.at m a.place) a.records.now a.names.now c.loop-k.next c.loop-k.k (c.loop-k.w, c.loop-k.trace)
    c.loop-k.invariant.1 (omega (arith, c.loop-k-test.true, c.module_count-count.ensures)) c.record_at-record.ensures in (
      c.reset_importer.auto.w ∙ c.loop-k.invariant.0,
      reset-next a.at m a.place a.records.now a.names.now c.loop-k.next
          c.loop-k.k (c.loop-k.w, c.loop-k.trace) c.loop-k.invariant.1 (omega (arith, c.loop-k-test.true, c.module_count-count.ensures)) c.record_at-record.ensures
          (unwrapped c.record_end-next.ensures (omega (arith, f))) c.reset_importer.ensures,
      c.reset_importer.auto.trace ∙ c.loop-k.invariant.2,
    )

pub returns : goal.returns
returns c =
    let a = c.args in
    let m = module_at a.records.now a.names.now a.place in
    reset-all a.at m a.place a.records.now a.names.now c.loop-k.next c.loop-k.k (c.loop-k.w, c.loop-k.trace) c.loop-k.invariant.1
    (omega (arith, c.loop-k-test.false, c.module_count-count.ensures))
