use Rattle.std.proofs.Common.{refl}
use Rattle.linker_spec.specs.Fix.{align_up}
use Rattle.linker.proofs.fix.align_up.Goals as goal

pub returns : goal.returns
unfolding align_up
returns c = refl
