use mathlib.Core.Path.{sym, ◌∙◌}
use lib.Seq.{length-take-le}
use Rattle.register_test.proofs.Contents.{modules_are, slots_are, modules_wrong, slots-wrong, records-wrong, names-wrong, contents_right}
use Rattle.register_test.proofs.contents_ok.Goals as goal

pub slice_bounds-modules_ok-end-2 : goal.slice_bounds-modules_ok-end-2
slice_bounds-modules_ok-end-2 c =
    sym (length-take-le c.args.named
    c.args.names.now c.requires.2)

pub returns-then-not-modules_ok : goal.returns-then-not-modules_ok
returns-then-not-modules_ok c =
    modules_wrong _ _ _ _ _ _ _
    (modules_are _ _ c.word.ensures c.modules_ok.ensures c.if-not-modules_ok.true)

pub returns-then-not-slots_ok : goal.returns-then-not-slots_ok
returns-then-not-slots_ok c =
    slots-wrong _ _ _ _ _ _ _
    (modules_are _ _ c.word.ensures c.modules_ok.ensures
    c.if-not-modules_ok.false)
    (slots_are _ c.word-kept.ensures c.slots_ok.ensures
    c.if-not-slots_ok.true)

pub returns-then-not-zero_from : goal.returns-then-not-zero_from
returns-then-not-zero_from c =
    records-wrong _ _ _ _ _ _ _
    (modules_are _ _ c.word.ensures
    c.modules_ok.ensures c.if-not-modules_ok.false)
    (slots_are _ c.word-kept.ensures
    c.slots_ok.ensures c.if-not-slots_ok.false)
    (sym c.zero_from.ensures ∙ c.if-not-zero_from.true)

pub returns-then-not-zero_from-2 : goal.returns-then-not-zero_from-2
returns-then-not-zero_from-2 c =
    names-wrong _ _ _ _ _ _ _
    (modules_are _ _ c.word.ensures
    c.modules_ok.ensures
    c.if-not-modules_ok.false)
    (slots_are _ c.word-kept.ensures
    c.slots_ok.ensures c.if-not-slots_ok.false)
    (sym c.zero_from.ensures ∙ c.if-not-zero_from.false)
    (sym c.zero_from-2.ensures ∙ c.if-not-zero_from-2.true)

pub returns : goal.returns
returns c =
    c.zero_from-3.ensures
    ∙ (rw c.word-kept.ensures
    (contents_right _ _ _ _ _ _ _
    (modules_are _ _ c.word.ensures
    c.modules_ok.ensures
    c.if-not-modules_ok.false)
    (slots_are _ c.word-kept.ensures
    c.slots_ok.ensures c.if-not-slots_ok.false)
    (sym c.zero_from.ensures ∙ c.if-not-zero_from.false)
    (sym c.zero_from-2.ensures ∙ c.if-not-zero_from-2.false)))
