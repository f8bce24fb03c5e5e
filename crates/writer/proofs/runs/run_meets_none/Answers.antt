use Rattle.std.proofs.Common.{refl, ◌∙◌, rules, tests}
use Rattle.std.proofs.lemmas.Iterator.{YieldsList-from_range}
use Rattle.std.proofs.lemmas.Iterator.Search.{all_from_yields_List}
use Rattle.writer_spec.specs.Description.{file_of}
use Rattle.writer.specs.Runs.{run_at}
use Rattle.writer.proofs.Laws.{all_to}
use Rattle.writer.proofs.runs.Laws.{meets_not_at}
use Rattle.writer.proofs.runs.run_meets_none.Goals as goal

pub returns : goal.returns
returns c =
    let a = c.args in
    let F = file_of a.bytes.now in
    let test = meets_not_at F (run_at a.run) a.entries.pointer a.entries.length in
    all_from_yields_List test _ _ _ c.all.ensures.ran (YieldsList-from_range 0 _ _ refl refl) (λ x b q k. search (rules, tests)) ∙ all_to _ test
