use Rattle.std.proofs.Common.{◌*◌, length, ◌∙◌, arith}
use Rattle.layout.specs.Header.{export_named_symbol_table_offset}
use Rattle.layout.specs.Segments.{field-word}
use Rattle.register.specs.Append.Draft.{room-inside, room_word}
use Rattle.linker.proofs.exports.Laws.{has_room, after_long, waits-short, sorted_full, sorted_open, sorted_ends}
use Rattle.linker.proofs.waiting.Laws.{ends_full}
use Rattle.linker.proofs.exports.gather_all_named.Goals as goal

pub overflow_add-end : goal.overflow_add-end
overflow_add-end c =
    let a = c.args in
    let first = a.first in
    let rs = a.records.now in
    let ns = a.names.now in
    let count = c.field-count.result in
    let fit = has_room first.end (12 * count) (length rs) c.room.ensures c.fits.ensures c.if-not-fits.false in
    omega (arith, fit, room_word (length rs))

pub slice_bounds-gather-end : goal.slice_bounds-gather-end
slice_bounds-gather-end c =
    let a = c.args in
    let first = a.first in
    let rs = a.records.now in
    let ns = a.names.now in
    let count = c.field-count.result in
    let fit = has_room first.end (12 * count) (length rs) c.room.ensures c.fits.ensures c.if-not-fits.false in
    omega (arith, fit, room-inside (length rs))

pub overflow_add-to : goal.overflow_add-to
overflow_add-to c =
    let a = c.args in
    let first = a.first in
    let rs = a.records.now in
    let ns = a.names.now in
    let count = c.field-count.result in
    let fit = has_room first.end (12 * count) (length rs) c.room.ensures c.fits.ensures c.if-not-fits.false in
    omega (arith, fit, c.gather-n.ensures.0, room_word (length rs))

pub slice_bounds-names_length-end : goal.slice_bounds-names_length-end
slice_bounds-names_length-end c =
    let a = c.args in
    let first = a.first in
    let rs = a.records.now in
    let ns = a.names.now in
    let count = c.field-count.result in
    let fit = has_room first.end (12 * count) (length rs) c.room.ensures c.fits.ensures c.if-not-fits.false in
    let n = c.gather-n.result in
    let items = c.gather-n.new.items in
    let same = c.gather-n.auto.items in
    let few = c.gather-n.ensures.0 in
    let s = c.gather-n.ensures.1 (c.field-table.ensures ∙ field-word a.at a.base export_named_symbol_table_offset a.w.now) in
    omega (arith, fit, few, after_long a.at a.w.now a.base count n first rs ns items c.field-count.ensures s same fit few, room-inside (length rs))

pub names_length-bytes-requires : goal.names_length-bytes-requires
names_length-bytes-requires c =
    let a = c.args in
    let first = a.first in
    let rs = a.records.now in
    let ns = a.names.now in
    let count = c.field-count.result in
    let fit = has_room first.end (12 * count) (length rs) c.room.ensures c.fits.ensures c.if-not-fits.false in
    let n = c.gather-n.result in
    let items = c.gather-n.new.items in
    let same = c.gather-n.auto.items in
    let few = c.gather-n.ensures.0 in
    let s = c.gather-n.ensures.1 (c.field-table.ensures ∙ field-word a.at a.base export_named_symbol_table_offset a.w.now) in
    waits-short a.at a.w.now a.base count n first rs ns items c.field-count.ensures s same fit few

pub returns-then-not-fits-2 : goal.returns-then-not-fits-2
returns-then-not-fits-2 c =
    let a = c.args in
    let first = a.first in
    let rs = a.records.now in
    let ns = a.names.now in
    let count = c.field-count.result in
    let fit = has_room first.end (12 * count) (length rs) c.room.ensures c.fits.ensures c.if-not-fits.false in
    let n = c.gather-n.result in
    let items = c.gather-n.new.items in
    let same = c.gather-n.auto.items in
    let few = c.gather-n.ensures.0 in
    let s = c.gather-n.ensures.1 (c.field-table.ensures ∙ field-word a.at a.base export_named_symbol_table_offset a.w.now) in (
      ends_full _ _,
      λ g m p h. sorted_full a.at a.w.now a.base count n first rs ns items c.field-count.ensures s same fit few _ c.names_length-bytes.ensures g m p h c.room-2.ensures c.fits-2.ensures c.if-not-fits-2.true c.give_up.ensures,
    )

pub overflow_add-result : goal.overflow_add-result
overflow_add-result c =
    let a = c.args in
    let first = a.first in
    let rs = a.records.now in
    let ns = a.names.now in
    let count = c.field-count.result in
    let fit = has_room first.end (12 * count) (length rs) c.room.ensures c.fits.ensures c.if-not-fits.false in
    omega (arith, fit, c.gather-n.ensures.0, room_word (length rs))

pub overflow_add-result-2 : goal.overflow_add-result-2
overflow_add-result-2 c =
    let a = c.args in
    let first = a.first in
    let rs = a.records.now in
    let ns = a.names.now in
    let count = c.field-count.result in
    let fit = has_room first.end (12 * count) (length rs) c.room.ensures c.fits.ensures c.if-not-fits.false in
    let bytes = c.names_length-bytes.result in
    let fits = has_room first.last bytes (length ns) c.room-2.ensures c.fits-2.ensures c.if-not-fits-2.false in
    omega (arith, fits, room_word (length ns))

pub returns : goal.returns
returns c =
    let a = c.args in
    let first = a.first in
    let rs = a.records.now in
    let ns = a.names.now in
    let count = c.field-count.result in
    let fit = has_room first.end (12 * count) (length rs) c.room.ensures c.fits.ensures c.if-not-fits.false in
    let n = c.gather-n.result in
    let items = c.gather-n.new.items in
    let same = c.gather-n.auto.items in
    let few = c.gather-n.ensures.0 in
    let s = c.gather-n.ensures.1 (c.field-table.ensures ∙ field-word a.at a.base export_named_symbol_table_offset a.w.now) in
    let bytes = c.names_length-bytes.result in
    let fits = has_room first.last bytes (length ns) c.room-2.ensures c.fits-2.ensures c.if-not-fits-2.false in (
      sorted_ends a.at a.w.now a.base count n first rs ns items c.field-count.ensures s same fit few c.clear.new.buffer ns bytes c.clear.auto.buffer fits,
      λ g m p h. sorted_open a.at a.w.now a.base count n first rs ns items c.field-count.ensures s same fit few bytes c.names_length-bytes.ensures g m p h fits c.clear.ensures,
    )
