use mathlib.Core.Path.{refl}
use native.Mathlib.Omega.{arith}
use Rattle.register.specs.Words.{words_in}
use Rattle.register_test.proofs.records.Loops.{fixed_size_lem, fixed_name, size-bytes, export_words_lem, module_bad, module_disordered, module_end_lem}
use Rattle.register_test.proofs.records.module_end.Goals as goal

pub returns-then-not-fixed_ok : goal.returns-then-not-fixed_ok
returns-then-not-fixed_ok c = module_bad _ _ _ c.fixed_ok.ensures c.if-not-fixed_ok.true

pub slice_bounds-list-end : goal.slice_bounds-list-end
slice_bounds-list-end c = let w = words_in c.args.bytes.now in
    let h = size-bytes c.args.bytes.now
    (fixed_size_lem _ _ _ c.fixed_ok.ensures c.if-not-fixed_ok.false) in
    omega (arith, c.word.ensures, c.word-2.ensures)

pub returns-then-not-ascending_exports : goal.returns-then-not-ascending_exports
returns-then-not-ascending_exports c = module_disordered _ _ _ _ c.fixed_ok.ensures
    c.if-not-fixed_ok.false
    (export_words_lem _ _ c.word.ensures c.word-2.ensures refl)
    c.ascending_exports.ensures
    c.if-not-ascending_exports.true

pub overflow_add-q : goal.overflow_add-q
overflow_add-q c = let h =
    fixed_name _ _ _ c.fixed_ok.ensures
    c.if-not-fixed_ok.false in
    omega (arith, c.word-3.ensures)

pub returns : goal.returns
returns c = module_end_lem _ _ _ _ c.fixed_ok.ensures
    c.if-not-fixed_ok.false
    (export_words_lem _ _ c.word.ensures
    c.word-2.ensures refl)
    c.ascending_exports.ensures
    c.if-not-ascending_exports.false
    c.word-3.ensures
    c.exports_end.ensures
