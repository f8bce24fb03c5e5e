use Rattle.std.proofs.Common.{◌+◌, sym, ap, ◌∙◌, add-one, arith}
use Rattle.desk_spec.specs.Places.{length-with, length-behind}
use Rattle.desk.proofs.places.taken_with.Goals as goal

pub returns-then-n-i : goal.returns-then-n-i
returns-then-n-i c =
    let taken = c.taken-n in
    λ p. ap (λ n. n + 1) taken.ensures.0 ∙ add-one _ ∙ sym (length-behind p _ _ (omega arith))

pub returns : goal.returns
returns c =
    let taken = c.taken-n in
    λ p. taken.ensures.0 ∙ sym (length-with p _ _ (omega arith))
