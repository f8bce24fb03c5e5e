use Rattle.std.proofs.Common.{◌≡◌, length}
use Rattle.window.specs.Trace.{run_t}
use Rattle.register.specs.Read.Read.{modules_of, module_at}
use Rattle.linker_spec.specs.Resets.{reset_importers}
use Rattle.linker.specs.Resets.Modules.{other_than}
use Rattle.linker.specs.Sources.Walks.{RecordWalk}
use Rattle.linker.proofs.resets.Walks.{resetting}
use Rattle.linker.proofs.resets.reset_importers.Given as goal

abbrev pub invariant-loop-k : goal.invariant-loop-k
invariant-loop-k l =
    (length l.w ≡ length l.initial.w)
    × RecordWalk (resetting l.at (module_at l.records l.names l.place) l.place) l.records l.names l.next l.k (l.w, l.trace)
    (run_t l.at (reset_importers (module_at l.records l.names l.place) (other_than l.place 32 (modules_of l.records l.names))) (l.initial.w, l.initial.trace))
    × (length l.trace ≡ length l.initial.trace)
