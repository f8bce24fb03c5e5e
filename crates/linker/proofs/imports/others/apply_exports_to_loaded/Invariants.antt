use Rattle.std.proofs.Common.{◌≡◌, ◌-◌, length}
use Rattle.window.specs.Trace.{run_t}
use Rattle.register.specs.Read.Read.{modules_of, module_at}
use Rattle.linker_spec.specs.Imports.{apply_exports_to_loaded}
use Rattle.linker.specs.Imports.Modules.{but_last}
use Rattle.linker.proofs.imports.Walks.{serving}
use Rattle.linker.specs.Sources.Walks.{RecordWalk}
use Rattle.linker.proofs.imports.others.apply_exports_to_loaded.Given as goal

abbrev pub invariant-loop-k : goal.invariant-loop-k
invariant-loop-k l =
    (length l.w ≡ length l.initial.w)
    × RecordWalk (serving l.at (module_at l.records l.names l.place)) l.records l.names l.next (l.k - 1) (l.w, l.trace)
    (run_t l.at (apply_exports_to_loaded (module_at l.records l.names l.place) (but_last (modules_of l.records l.names))) (l.initial.w, l.initial.trace))
    × (length l.trace ≡ length l.initial.trace)
