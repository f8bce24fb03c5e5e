use native.Mathlib.Omega.{arith}
use Rattle.text.specs.Laws.{put-within}
use Rattle.session_main.proofs.run.Goals as goal

pub slice_bounds-write_all-end : goal.slice_bounds-write_all-end
slice_bounds-write_all-end g c = (put-within _ 0 _ (omega arith) c.session_text-length.ensures.0).0

pub slice_bounds-write_all-end-2 : goal.slice_bounds-write_all-end-2
slice_bounds-write_all-end-2 g c = (put-within _ 0 _ (omega arith) c.session_text-length.ensures.0).1
