use Rattle.std.proofs.Common.{ℕ, ◌-◌, eqb, refl, ◌∙◌, rules, tests}
use Rattle.std.proofs.lemmas.Iterator.{YieldsList-from_range}
use Rattle.std.proofs.lemmas.Iterator.Search.{all_from_yields_List}
use Rattle.writer_spec.specs.Description.{file_of, zeros}
use Rattle.writer.proofs.Laws.{all_from}
use Rattle.writer.proofs.packed.zeros.Goals as goal

pub returns : goal.returns
unfolding zeros
returns c =
    let a = c.args in
    let test = λ (i : ℕ). eqb (file_of a.bytes.now i) 0 in
    all_from_yields_List test _ _ _ c.all.ensures.ran (YieldsList-from_range a.from a.to _ refl refl) (λ x b q k. search (rules, tests)) ∙ all_from (a.to - a.from) a.from test
