use Rattle.std.proofs.Common.{refl, ◌∙◌, arith, rules}
use Rattle.window.specs.Name.{name-fits, name_taken}
use Rattle.linker.specs.Exports.Naming.{name-short, names-left-all, names-left-turn, names-left_none}
use Rattle.linker.proofs.waiting.write_names.Goals as goal

pub loop-k-init : goal.loop-k-init
loop-k-init c = (refl, refl, search rules, omega arith, λ xs first l h e. names-left-all _ _ xs _ _ h l (omega arith))

pub overflow_cast-count : goal.overflow_cast-count
overflow_cast-count c = search (rules, name-short _ _ c.word-place.result _ c.peek_name-count.ensures)

pub slice_bounds-buffer-end : goal.slice_bounds-buffer-end
slice_bounds-buffer-end c = name-fits _ _ c.peek_name-count.ensures

pub slice_bounds-copy_into-end : goal.slice_bounds-copy_into-end
slice_bounds-copy_into-end c = name_taken _ _ c.peek_name-count.ensures

pub overflow_cast-count-in-loop-k : goal.overflow_cast-count-in-loop-k
overflow_cast-count-in-loop-k c = search (rules, name-short _ _ c.word-place.result _ c.peek_name-count.ensures)

pub loop-k-preserved : goal.loop-k-preserved
loop-k-preserved c =
    let i = c.loop-k.invariant in
    let t = c.loop-k-test.true in (
      c.store32-in-loop-k-2.auto.w ∙ c.store32-in-loop-k.auto.w ∙ c.store32.auto.w ∙ i.0,
      c.copy_into.auto.buffer ∙ i.1,
      search rules,
      omega arith,
      λ xs first l h e. names-left-turn _ _ xs _ _ first e h.small (i.4 xs first l h e) (omega (arith, t)) (omega (arith, t, i.3)) (i.0 ∙ l) _
          c.word-place.ensures c.word-address.ensures c.peek_name-count.ensures c.wrapping_sub_u32-offset.ensures.value
          (search rules) c.copy_into.ensures c.store32.ensures c.store32-in-loop-k.ensures c.store32-in-loop-k-2.ensures,
    )

pub returns : goal.returns
returns c = λ xs first l h e. names-left_none _ _ xs _ _ first e (c.loop-k.invariant.4 xs first l h e) (omega (arith, c.loop-k-test.false))
