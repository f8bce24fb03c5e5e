-- What the read gives, whatever its trace: `peeked`.
use Rattle.window.specs.Silent.{peeked}
use Rattle.window.specs.Access.{get32, Reads, run}
use Rattle.layout.proofs.peek.word.Goals as goal

pub returns : goal.returns
unfolding Reads run
returns c =
    let a = c.args in
    peeked a.at (get32 a.x) _ (λ v. tt) c.read32.ensures
