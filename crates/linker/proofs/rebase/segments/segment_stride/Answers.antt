-- The stride from the segment's entry on.
use Rattle.std.proofs.Common.{length, ap, ◌∙◌}
use Rattle.window.specs.Outside.{silent_stride}
use Rattle.layout.specs.Header.{segment_table_offset, segment_entry_size}
use Rattle.layout.specs.Segments.{entry_at, field-word}
use Rattle.linker.proofs.rebase.segments.segment_stride.Goals as goal

pub returns : goal.returns
returns c =
    let a = c.args in
    c.silent_stride.ensures
    ∙ ap (λ x. silent_stride a.at (length a.w.now) a.trace.now x segment_entry_size a.left)
    (c.entry_address-entry.ensures
    ∙ ap (λ table. entry_at table a.index segment_entry_size) (c.field-table.ensures ∙ field-word a.at a.base segment_table_offset a.w.now))
