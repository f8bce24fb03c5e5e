use Rattle.std.proofs.Common.{ℕ, ◌-◌, min, not, ◌≡◌, eqb, refl, ◌∙◌, arith, rules, tests}
use Rattle.std.proofs.lemmas.Iterator.{YieldsList-from_range}
use Rattle.std.proofs.lemmas.Iterator.Search.{any_from_yields_List}
use Rattle.linker_spec.specs.Relocation.{batch_limit}
use Rattle.history.specs.Image.{count, end_mark, externals}
use Rattle.writer_spec.specs.Description.{file_of}
use Rattle.writer.proofs.batches.Laws.{ends_among}
use Rattle.writer.proofs.batches.batch_ends.Goals as goal

pub returns : goal.returns
returns c =
    let a = c.args in
    let F = file_of a.bytes.now in
    let test = λ (e : ℕ). not (eqb (end_mark F e) 0) in
    let whole : c.min-end.result - a.first ≡ min batch_limit (count F externals - a.first) =
    omega (arith, c.min-end.ensures, c.saturating_add.ensures, c.count.ensures) in
    any_from_yields_List test _ _ _ c.any.ensures.ran (YieldsList-from_range a.first _ _ refl whole) (λ x b q k. search (rules, tests)) ∙ ends_among F batch_limit a.first
