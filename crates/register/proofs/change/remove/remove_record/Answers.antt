use Rattle.std.proofs.Common.{◌≡◌, ◌+◌, ◌-◌, ◌*◌, ◌<◌, ◌∙◌, arith}
use Rattle.window.specs.Word.{word_in}
use Rattle.register.specs.Change.Remove.{leaving}
use Rattle.register.proofs.change.Laws.{size-found, end_found, later_found, removed_in_steps}
use Rattle.register.proofs.change.remove.remove_record.Goals as goal

pub slice_bounds-module_size-count : goal.slice_bounds-module_size-count
slice_bounds-module_size-count c = let n = leaving (λ i. (c.slice_known-1.given i).fits) c.requires in
    omega (arith, n.inside, n.used-inside)

pub slice_bounds-module_size-start : goal.slice_bounds-module_size-start
slice_bounds-module_size-start c = let n = leaving (λ i. (c.slice_known-1.given i).fits) c.requires in
    omega (arith, n.inside, n.used-inside)

pub overflow_mul-size : goal.overflow_mul-size
overflow_mul-size c = let n = leaving (λ i. (c.slice_known-1.given i).fits) c.requires in
    let es = size-found n c.module_size-size.result c.module_size-size.ensures in
    omega (arith, n.inside, n.used-inside)

pub overflow_add-place : goal.overflow_add-place
overflow_add-place c = let n =
    leaving (λ i. (c.slice_known-1.given i).fits) c.requires in
    omega (arith, n.whole, n.inside, n.used-inside)

pub load32-first-requires : goal.load32-first-requires
load32-first-requires c = let n =
    leaving (λ i. (c.slice_known-1.given i).fits) c.requires in
    omega (arith, n.whole, n.inside, n.used-inside)

pub overflow_add-place-2 : goal.overflow_add-place-2
overflow_add-place-2 c = let n =
    leaving (λ i. (c.slice_known-1.given i).fits)
    c.requires in
    let es = size-found n c.module_size-size.result c.module_size-size.ensures in
    omega (arith, n.inside, n.used-inside)

pub names_end-requires : goal.names_end-requires
names_end-requires c = let n =
    leaving (λ i. (c.slice_known-1.given i).fits)
    c.requires in
    let es = size-found n c.module_size-size.result c.module_size-size.ensures in (
      omega (arith, n.whole, n.inside, n.used-inside),
      λ h. (let t : c.args.place + n.size < word_in
          c.args.records.now 12 = omega arith in omega (arith, n.next-whole t)),
    )

pub overflow_sub-gap : goal.overflow_sub-gap
overflow_sub-gap c = let n = leaving (λ i. (c.slice_known-1.given i).fits)
    c.requires in
    let es = size-found n c.module_size-size.result c.module_size-size.ensures in
    let ef = c.load32-first.ensures ∙ n.offset_is in
    let ee = end_found n c.names_end.result (4 * c.module_size-size.result) c.names_end.ensures es in
    omega arith

pub cut_record-requires : goal.cut_record-requires
cut_record-requires c = let n =
    leaving (λ i. (c.slice_known-1.given i).fits)
    c.requires in
    let es = size-found n c.module_size-size.result
    c.module_size-size.ensures in
    let ef = c.load32-first.ensures ∙ n.offset_is in
    let ee = end_found n c.names_end.result (4 * c.module_size-size.result)
    c.names_end.ensures es in
    let eg : c.names_end.result - c.load32-first.result ≡ n.gap = omega arith in (
      omega (arith, n.whole, n.inside, n.used-inside),
      omega (arith, n.inside, n.used-small),
      omega (arith, n.inside),
      n.used-inside,
      later_found n (4 * c.module_size-size.result)
          (c.names_end.result - c.load32-first.result) es eg,
    )

pub close_gap-requires : goal.close_gap-requires
close_gap-requires c = let n =
    leaving (λ i. (c.slice_known-1.given i).fits) c.requires in
    let es = size-found n c.module_size-size.result
    c.module_size-size.ensures in
    let ef = c.load32-first.ensures ∙ n.offset_is in
    let ee = end_found n c.names_end.result
    (4 * c.module_size-size.result)
    c.names_end.ensures es in
    omega (arith, n.named)

pub returns : goal.returns
returns c = λ s. let n =
    leaving (λ i. (c.slice_known-1.given i).fits) s in
    let es = size-found n c.module_size-size.result
    c.module_size-size.ensures in
    let ef = c.load32-first.ensures ∙ n.offset_is in
    let ee = end_found n c.names_end.result
    (4 * c.module_size-size.result)
    c.names_end.ensures es in
    let eg : c.names_end.result - c.load32-first.result ≡ n.gap = omega arith in
    removed_in_steps n (4 * c.module_size-size.result)
    (c.names_end.result - c.load32-first.result) c.load32-first.result es eg ef c.cut_record.ensures c.close_gap.ensures
