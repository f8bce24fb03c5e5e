use Rattle.std.proofs.Common.{ℕ, refl, ap, ◌∙◌, rules, tests}
use Rattle.std.proofs.lemmas.Iterator.{YieldsList-from_range}
use Rattle.std.proofs.lemmas.Iterator.Search.{all_from_yields_List}
use Rattle.writer_spec.specs.All.{all_below}
use Rattle.writer_spec.specs.Description.{file_of}
use Rattle.writer_spec.specs.Words.{word_of, word_off, words_off}
use Rattle.writer.proofs.Laws.{all_to}
use Rattle.writer.proofs.touched.words_off.Goals as goal

pub returns : goal.returns
unfolding words_off
returns c =
    let w = c.args.words.now in
    let F = file_of w.bytes.now in
    let test = λ (i : ℕ). word_off F w.room (word_of F w.kinds.now w.room i) in
    all_from_yields_List test _ _ _ c.all.ensures.ran (YieldsList-from_range 0 _ _ refl refl) (λ x b q k. search (rules, tests)) ∙ (all_to _ test ∙ ap (λ n. all_below n test) c.count.ensures)
