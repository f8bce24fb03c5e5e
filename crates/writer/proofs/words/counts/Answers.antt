use Rattle.std.proofs.Common.{nat_eq, ◌∙◌, rules, tests}
use Rattle.std.proofs.lemmas.Iterator.{YieldsList-from_slice}
use Rattle.std.proofs.lemmas.Iterator.Search.{any_from_yields_List}
use Rattle.writer.proofs.words.Laws.{counts_any}
use Rattle.writer.proofs.words.counts.Goals as goal

pub returns : goal.returns
returns c =
    let a = c.args in
    any_from_yields_List (λ x. nat_eq x a.kind) _ _ _ c.any.ensures.ran (YieldsList-from_slice a.kinds.now cc) (λ x b q k. search (rules, tests)) ∙ counts_any _ _
