use Rattle.std.proofs.Common.{ℕ, refl, ◌∙◌, rules, tests, suc, ◌-◌, eqb, not}
use Rattle.std.proofs.lemmas.Iterator.{YieldsList-from_range}
use Rattle.std.proofs.lemmas.Iterator.Search.{all_from_yields_List}
use Rattle.writer_spec.specs.Description.{file_of}
use Rattle.writer_spec.specs.Words.{long_before}
use Rattle.writer.proofs.Laws.{all_to}
use Rattle.writer.proofs.touched.long_before.Goals as goal

pub returns : goal.returns
unfolding long_before
returns c =
    let a = c.args in
    let F = file_of a.bytes.now in
    let test = λ (i : ℕ). not (eqb (F (a.o - suc i)) 0) in
    all_from_yields_List test _ _ _ c.all.ensures.ran (YieldsList-from_range 0 512 _ refl refl) (λ x b q k. search (rules, tests)) ∙ all_to _ test
