use Rattle.std.proofs.Common.{sym, ◌∙◌, arith}
use Rattle.register.specs.Read.Walk.{walk_starts, walk_ends, walk_sorted, lookup_none, unwrapped}
use Rattle.register.proofs.read.Searches.{end_fits, lookup_found, lookup_lacks, lookup_skips}
use Rattle.register.proofs.read.modules.lookup.Goals as goal
use Rattle.register.proofs.read.modules.lookup.Goals.{then-record-eq1+in_default, else-record-eq1}

pub loop-k-init : goal.loop-k-init
loop-k-init c = walk_starts _ _ _ c.requires

pub export_named-requires : goal.export_named-requires
export_named-requires c = walk_sorted _ _ _ c.loop-k.invariant (omega arith)

pub returns-in-Some : goal.returns-in-Some
returns-in-Some c =
    let a = c.args in
    let r = c.record_at-record.ensures in
    lookup_found a.records.now a.names.now c.loop-k.place c.loop-k.k (omega arith) r a.name.now c.loop-k.invariant
    c.if-record-eq1.true (sym c.export_named.ensures ∙ c.in-Some.is)

pub loop-k-preserved : goal.loop-k-preserved
loop-k-preserved c =
    let a = c.args in
    let r = c.record_at-record.ensures in
    let f = end_fits a.records.now a.names.now c.loop-k.place c.loop-k.k (omega arith) r _ c.loop-k.invariant in
    let next = unwrapped c.record_end-place.ensures (omega (arith, f)) in
    elim c.if-record-eq1.branch [
      | then-record-eq1+in_default w ↦
          lookup_lacks a.records.now a.names.now c.loop-k.place c.loop-k.k (omega arith) r a.name.now c.loop-k.invariant next
          w.if-record-eq1.true (sym w.export_named.ensures ∙ w.in_default.is)
      | else-record-eq1 w ↦
          lookup_skips a.records.now a.names.now c.loop-k.place c.loop-k.k (omega arith) r a.name.now c.loop-k.invariant next
          w.if-record-eq1.false
    ]

pub returns : goal.returns
returns c = lookup_none _ ∙ walk_ends _ _ _ c.loop-k.invariant (omega arith)
