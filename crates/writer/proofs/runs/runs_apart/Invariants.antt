use Rattle.writer_spec.specs.Description.{file_of}
use Rattle.writer.specs.Runs.{run_at}
use Rattle.writer.proofs.runs.Laws.{RunsSoFar}
use Rattle.writer.proofs.runs.runs_apart.Given as goal

abbrev pub invariant-loop-j : goal.invariant-loop-j
invariant-loop-j l = RunsSoFar (file_of l.bytes) (run_at l.run) l.j l.end
