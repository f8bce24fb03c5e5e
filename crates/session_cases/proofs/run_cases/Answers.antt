-- A case's text ends within the buffer.
use Rattle.session_cases.proofs.Laws.{within}
use Rattle.session_cases.proofs.run_cases.Goals as goal

pub slice_bounds-text-end : goal.slice_bounds-text-end
slice_bounds-text-end g c = (within _ _ _ c.run_case.ensures c.in-Some.is).0

pub slice_bounds-write_all-end-in-loop-k-2 : goal.slice_bounds-write_all-end-in-loop-k-2
slice_bounds-write_all-end-in-loop-k-2 g c = (within _ _ _ c.run_case.ensures c.in-Some.is).1
