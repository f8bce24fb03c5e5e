-- The buffer's length is told, since counting its zeros one by one is too long.
use Prim.Native.Nat.{ℕ}
use mathlib.Core.Path.{sym}
use lib.ListN.{length-replicate}
use Rattle.session_cases.proofs.main.Goals as goal

pub slice_bounds-read_full-end : goal.slice_bounds-read_full-end
slice_bounds-read_full-end c = sym (length-replicate {A = ℕ} 1048576 0)

pub slice_bounds-file-end : goal.slice_bounds-file-end
slice_bounds-file-end c = c.in_ok-n.ensures.within.0

pub slice_bounds-run_cases-end : goal.slice_bounds-run_cases-end
slice_bounds-run_cases-end c = c.in_ok-n.ensures.within.1
