use Rattle.std.proofs.Common.{◌∙◌, arith}
use Rattle.writer_spec.specs.Description.{file_of}
use Rattle.writer.proofs.packed.Laws.{pair-passed, pair-refused, pairs_end, table-size-fits}
use Rattle.writer.proofs.packed.tables_packed.Goals as goal

pub block_after-requires : goal.block_after-requires
block_after-requires c = table-size-fits c.loop-k.k {number = c.count.result} (omega arith) c.table_entry_size.ensures

pub returns-in_err-pos : goal.returns-in_err-pos
returns-in_err-pos c =
    let l = c.loop-k in
    c.from_residual.ensures
    ∙ (pair-refused (file_of c.args.bytes.now) 15 l.k l.pos c.loop-k-test.true c.count.ensures c.table_entry_size.ensures c.word.ensures
    c.block_after.ensures c.in_err-pos.was ∙ l.invariant)

pub loop-k-preserved : goal.loop-k-preserved
loop-k-preserved c =
    let l = c.loop-k in
    pair-passed (file_of c.args.bytes.now) 15 l.k l.pos _ c.loop-k-test.true c.count.ensures c.table_entry_size.ensures c.word.ensures
    c.block_after.ensures c.in_ok-pos.was ∙ l.invariant

pub returns : goal.returns
returns c = let l = c.loop-k in pairs_end (file_of c.args.bytes.now) 15 l.k l.pos c.loop-k-test.false ∙ l.invariant
