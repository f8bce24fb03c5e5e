use Rattle.std.proofs.Common.{ℕ, refl, ap, ◌∙◌, rules, tests, not}
use Rattle.std.proofs.lemmas.Iterator.{YieldsList-from_range}
use Rattle.std.proofs.lemmas.Iterator.Search.{any_from_yields_List}
use Rattle.writer_spec.specs.All.{all_below}
use Rattle.writer_spec.specs.Description.{file_of}
use Rattle.writer_spec.specs.Words.{in_run, asked}
use Rattle.writer.specs.Runs.{run_at}
use Rattle.writer.proofs.Laws.{all_to, any_is}
use Rattle.writer.proofs.touched.asked.Goals as goal

pub returns : goal.returns
unfolding asked
returns c =
    let a = c.args in
    let F = file_of a.bytes.now in
    let test = λ (j : ℕ). in_run F (run_at a.run) j a.o in
    any_from_yields_List test _ _ _ c.any.ensures.ran (YieldsList-from_range 0 _ _ refl refl) (λ x b q k. search (rules, tests)) ∙ (any_is test _ ∙ ap not (all_to _ (λ j. not (test j)) ∙ ap (λ n. all_below n (λ j. not (test j))) c.count.ensures))
