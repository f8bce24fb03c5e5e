use Rattle.register.specs.Read.Read.{lookup_in}
use Rattle.register.specs.Read.Walk.{Walk}
use Rattle.register.proofs.read.modules.lookup.Given as goal

abbrev pub invariant-loop-k : goal.invariant-loop-k
invariant-loop-k l =
    Walk (λ p ms. lookup_in ms l.name) l.records l.names l.place l.k
