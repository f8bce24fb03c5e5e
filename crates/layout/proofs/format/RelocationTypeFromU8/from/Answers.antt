-- An arm of numbers has the definition at its number; in the last arm every test fails.
use Rattle.std.proofs.Common.{sym, ap, ⊎_elim, rules}
use Rattle.layout.specs.Format.{relocation_type}
use Rattle.layout.proofs.format.RelocationTypeFromU8.from.Goals as goal

pub returns-in-0 : goal.returns-in-0
unfolding relocation_type
returns-in-0 c = sym (ap relocation_type c.in-0.is)

pub returns-in-2 : goal.returns-in-2
unfolding relocation_type
returns-in-2 c = ⊎_elim (λ e. sym (ap relocation_type e)) (λ e. sym (ap relocation_type e)) c.in-2.is

pub returns-in-3 : goal.returns-in-3
unfolding relocation_type
returns-in-3 c = sym (ap relocation_type c.in-3.is)

pub returns-in-4 : goal.returns-in-4
unfolding relocation_type
returns-in-4 c = sym (ap relocation_type c.in-4.is)

pub returns-in-5 : goal.returns-in-5
unfolding relocation_type
returns-in-5 c = sym (ap relocation_type c.in-5.is)

pub returns-in-6 : goal.returns-in-6
unfolding relocation_type
returns-in-6 c = sym (ap relocation_type c.in-6.is)

pub returns-in-42 : goal.returns-in-42
unfolding relocation_type
returns-in-42 c = sym (ap relocation_type c.in-42.is)

pub returns-in_default : goal.returns-in_default
unfolding relocation_type
returns-in_default c = search rules
