use Rattle.std.proofs.Common.{refl, ap, ◌∙◌, rules, tests}
use Rattle.std.proofs.lemmas.Iterator.{YieldsList-from_range}
use Rattle.std.proofs.lemmas.Iterator.Search.{all_from_yields_List}
use Rattle.writer_spec.specs.All.{all_below}
use Rattle.writer_spec.specs.Description.{file_of, table_at}
use Rattle.writer_spec.specs.Batches.{batches_in}
use Rattle.writer.proofs.Laws.{all_to}
use Rattle.writer.proofs.batches.Laws.{is_batch_at}
use Rattle.writer.proofs.batches.batches_in.Goals as goal

pub returns : goal.returns
unfolding batches_in
returns c =
    let a = c.args in
    let F = file_of a.bytes.now in
    let test = is_batch_at F (table_at a.table.field a.table.width) in
    all_from_yields_List test _ _ _ c.all.ensures.ran (YieldsList-from_range 0 _ _ refl refl) (λ x b q k. search (rules, tests)) ∙ (all_to _ test ∙ ap (λ n. all_below n test) c.count.ensures)
