use Rattle.std.proofs.Common.{ℕ, eq-eqb, refl, sym, ap, ◌∙◌, rules, tests}
use Rattle.std.proofs.lemmas.Iterator.{YieldsList-from_range}
use Rattle.std.proofs.lemmas.Iterator.Search.{all_from_yields_List}
use Rattle.writer_spec.specs.All.{all_below}
use Rattle.writer_spec.specs.Description.{file_of}
use Rattle.writer_spec.specs.Words.{word_of, far_past}
use Rattle.writer.proofs.Laws.{all_to}
use Rattle.writer.proofs.apart.Laws.{far_from_lem, near_from}
use Rattle.writer.proofs.apart.far_word_apart.Goals as goal

pub returns-then-e-eq0 : goal.returns-then-e-eq0
returns-then-e-eq0 c = let zero = c.if-e-eq0.true in rw (eq-eqb _ _ zero) (sym (near_from _ _ _ c.args.word c.past_image-e.ensures zero))

pub returns-else-e-eq0 : goal.returns-else-e-eq0
returns-else-e-eq0 c =
    let w = c.args.words.now in
    let F = file_of w.bytes.now in
    let test = λ (k : ℕ). far_past w.room c.past_image-e.result (word_of F w.kinds.now w.room k) in
    far_from_lem F w.kinds.now w.room c.args.word c.past_image-e.ensures c.if-e-eq0.false
    (all_from_yields_List test _ _ _ c.all.ensures.ran (YieldsList-from_range 0 _ _ refl refl) (λ x b q k. search (rules, tests)) ∙ (all_to _ test ∙ ap (λ n. all_below n test) c.count.ensures))
