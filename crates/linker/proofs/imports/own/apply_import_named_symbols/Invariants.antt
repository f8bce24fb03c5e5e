use Rattle.std.proofs.Common.{◌≡◌, ◌-◌, ◌≤◌, length}
use Rattle.window.specs.Trace.{run_t}
use Rattle.window.specs.Loop.{loop}
use Rattle.register.specs.Decode.{register_of}
use Rattle.linker.proofs.imports.Missing.{turn, Reached}
use Rattle.linker.proofs.imports.own.apply_import_named_symbols.Given as goal

abbrev pub invariant-loop-index : goal.invariant-loop-index
invariant-loop-index l =
    (l.index ≤ l.count)
    × (length l.w ≡ length l.initial.w)
    × (length l.records ≡ length l.initial.records)
    × (length l.missing ≡ length l.initial.missing)
    × Reached l.at l.base l.table (register_of l.initial.records l.names l.initial.missing) l.initial.records l.records l.names l.missing l.index l.count (l.w, l.trace)
    (run_t l.at (loop (turn l.at l.base l.table (register_of l.initial.records l.names l.initial.missing)) 0 (l.count - 0) (register_of l.initial.records l.names l.initial.missing).missing) (l.initial.w, l.initial.trace))
    × (length l.trace ≡ length l.initial.trace)

abbrev pub decreases-loop-index : goal.decreases-loop-index
decreases-loop-index l = l.count - l.index
