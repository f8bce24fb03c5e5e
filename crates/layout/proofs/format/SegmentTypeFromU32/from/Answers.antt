-- An arm of a number has the definition at its number; in the last arm every test fails.
use Rattle.std.proofs.Common.{sym, ap, rules}
use Rattle.layout.specs.Format.{segment_type}
use Rattle.layout.proofs.format.SegmentTypeFromU32.from.Goals as goal

pub returns-in-0 : goal.returns-in-0
unfolding segment_type
returns-in-0 c = sym (ap segment_type c.in-0.is)

pub returns-in-1 : goal.returns-in-1
unfolding segment_type
returns-in-1 c = sym (ap segment_type c.in-1.is)

pub returns-in-2 : goal.returns-in-2
unfolding segment_type
returns-in-2 c = sym (ap segment_type c.in-2.is)

pub returns-in_default : goal.returns-in_default
unfolding segment_type
returns-in_default c = search rules
