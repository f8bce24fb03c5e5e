use Rattle.std.proofs.Common.{refl, ap, ◌∙◌, rules, tests}
use Rattle.std.proofs.lemmas.Iterator.{YieldsList-from_range}
use Rattle.std.proofs.lemmas.Iterator.Search.{all_from_yields_List}
use Rattle.writer_spec.specs.All.{all_below}
use Rattle.writer_spec.specs.Description.{file_of}
use Rattle.writer_spec.specs.Runs.{runs_inside}
use Rattle.writer.specs.Runs.{run_at, imports_of}
use Rattle.writer.proofs.Laws.{all_to}
use Rattle.writer.proofs.runs.Laws.{is_run_at}
use Rattle.writer.proofs.runs.runs_inside.Goals as goal

pub returns : goal.returns
unfolding runs_inside
returns c =
    let a = c.args in
    let F = file_of a.bytes.now in
    let test = is_run_at F (run_at a.run) (imports_of a.run) in
    all_from_yields_List test _ _ _ c.all.ensures.ran (YieldsList-from_range 0 _ _ refl refl) (λ x b q k. search (rules, tests)) ∙ (all_to _ test ∙ ap (λ n. all_below n test) c.count.ensures)
