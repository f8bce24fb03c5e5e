use Rattle.std.proofs.Common.{refl, ◌∙◌, rules, tests}
use Rattle.std.proofs.lemmas.Iterator.{YieldsList-from_range}
use Rattle.std.proofs.lemmas.Iterator.Search.{all_from_yields_List}
use Rattle.writer_spec.specs.Description.{file_of}
use Rattle.writer.proofs.Laws.{all_to}
use Rattle.writer.proofs.batches.Laws.{differs_at}
use Rattle.writer.proofs.batches.batch_is_new.Goals as goal

pub returns : goal.returns
returns c =
    let a = c.args in
    let F = file_of a.bytes.now in
    let test = differs_at F a.batch in
    all_from_yields_List test _ _ _ c.all.ensures.ran (YieldsList-from_range 0 _ _ refl refl) (λ x b q k. search (rules, tests)) ∙ all_to _ test
