use Rattle.std.proofs.Common.{ap, ◌∙◌}
use Rattle.window.specs.Name.{name-fits, name_is, name_taken}
use Rattle.register.specs.Append.Draft.{begin_record}
use Rattle.linker.proofs.record.Laws.{own_name_lem}
use Rattle.linker.proofs.record.begin.Goals as goal

pub slice_bounds-buffer-end : goal.slice_bounds-buffer-end
slice_bounds-buffer-end c = name-fits _ _ c.peek_name-count.ensures

pub slice_bounds-begin_record-end : goal.slice_bounds-begin_record-end
slice_bounds-begin_record-end c = name_taken _ _ c.peek_name-count.ensures

pub returns : goal.returns
returns c =
    let a = c.args in
    c.begin_record.ensures ∙ ap (λ t. begin_record a.records.now a.names.now a.base a.size a.auto_link t)
    (name_is _ _ c.peek_name-count.ensures ∙ own_name_lem a.at a.w.now a.base c.field-place.ensures)
