-- The product of two words fits a u64, and the sum wraps as `entry_at_lem` does.
use Rattle.std.proofs.Common.{rules}
use Rattle.layout.proofs.Laws.{product_fits}
use Rattle.layout.proofs.fields.entry_address.Goals as goal

pub overflow_mul-product : goal.overflow_mul-product
overflow_mul-product c = record { fits = product_fits (search rules) (search rules) }
