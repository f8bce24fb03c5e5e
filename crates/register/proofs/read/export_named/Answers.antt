use Rattle.std.proofs.Common.{sym, ◌∙◌, arith}
use Rattle.register.proofs.read.Laws.{export_inside, export_sorted, export_none, export_at_lem}
use Rattle.register.proofs.read.export_named.Goals as goal

pub search_export-requires : goal.search_export-requires
search_export-requires c =
    export_sorted _ _ _ c.bytes_from-rest.ensures c.word.ensures c.word-2.ensures _ _ c.bytes_at-list.ensures
    c.requires

pub returns-in_err-k : goal.returns-in_err-k
returns-in_err-k c =
    rw c.from_residual.ensures
    (export_none _ _ _ c.bytes_from-rest.ensures c.word.ensures c.word-2.ensures _ _
    c.bytes_at-list.ensures _
    (sym c.search_export.ensures ∙ c.in_err-k.was))

pub overflow_mul-k : goal.overflow_mul-k
overflow_mul-k c =
    let h = export_inside c.bytes_at-list.result.now _ _ (sym c.search_export.ensures ∙ c.in_ok-k.was) in
    omega arith

pub overflow_add-k : goal.overflow_add-k
overflow_add-k c =
    let h = export_inside c.bytes_at-list.result.now _ _ (sym c.search_export.ensures ∙ c.in_ok-k.was) in
    omega arith

pub returns : goal.returns
returns c =
    export_at_lem _ _ _ c.bytes_from-rest.ensures c.word.ensures c.word-2.ensures _ _
    c.bytes_at-list.ensures _
    (sym c.search_export.ensures ∙ c.in_ok-k.was) c.word-3.ensures
