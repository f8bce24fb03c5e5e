use Rattle.std.proofs.Common.{ℕ, ◌-◌, refl, ◌∙◌, rules, tests}
use Rattle.std.proofs.lemmas.Iterator.{YieldsList-from_range}
use Rattle.std.proofs.lemmas.Iterator.Search.{all_from_yields_List}
use Rattle.writer_spec.specs.Description.{file_of}
use Rattle.writer_spec.specs.Words.{word_of, places_apart}
use Rattle.writer.specs.Apart.{apart_between}
use Rattle.writer.proofs.Laws.{all_from}
use Rattle.writer.proofs.apart.apart_between.Goals as goal

pub returns : goal.returns
unfolding apart_between
returns c =
    let a = c.args in
    let w = a.words.now in
    let test = λ (i : ℕ). places_apart (word_of (file_of w.bytes.now) w.kinds.now w.room i) a.word in
    all_from_yields_List test _ _ _ c.all.ensures.ran (YieldsList-from_range a.from a.to _ refl refl) (λ x b q k. search (rules, tests)) ∙ all_from (a.to - a.from) a.from test
