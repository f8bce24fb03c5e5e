use Rattle.std.proofs.Common.{ℕ, Bool, List}
use Rattle.register.specs.Module.{Module}
use Rattle.register.specs.Read.Read.{Encoded, place_from}
use Rattle.register.specs.Read.Search.{Tells}
use Rattle.register.specs.Read.Walk.{Walk}
use Rattle.register.proofs.read.modules.first_record.Given as goal

abbrev pub invariant-loop-k : goal.invariant-loop-k
invariant-loop-k g l =
    (names : List ℕ) (takes : Module → Bool) → Encoded l.records names → Tells l.records names takes (goal.F-post g l.test)
    → Walk (λ p ms. place_from p ms takes) l.records names l.place l.k
