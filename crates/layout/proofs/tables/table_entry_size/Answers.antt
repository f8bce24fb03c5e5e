-- The constant is the list of the definition; past its end both give 0.
use Rattle.std.proofs.Common.{sym, refl}
use lib.ListN.{get_or-eq_default}
use Rattle.layout.specs.Tables.{table_entry_sizes}
use Rattle.layout.proofs.tables.table_entry_size.Goals as goal

pub returns-then-i-lt15 : goal.returns-then-i-lt15
unfolding table_entry_sizes
returns-then-i-lt15 c = refl

pub returns-else-i-lt15 : goal.returns-else-i-lt15
unfolding table_entry_sizes
returns-else-i-lt15 c = sym (get_or-eq_default table_entry_sizes 0 c.if-i-lt15.false)
