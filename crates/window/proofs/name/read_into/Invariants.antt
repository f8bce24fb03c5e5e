use Rattle.std.proofs.Common.{◌≡◌, ◌-◌, length, take, drop}
use Rattle.window.specs.Trace.{run_t}
use Rattle.window.specs.Name.{name_from}
use Rattle.window.proofs.name.Laws.{behind}
use Rattle.window.proofs.name.read_into.Given as goal

abbrev pub invariant-loop-n : goal.invariant-loop-n
invariant-loop-n l =
    (length l.buffer ≡ length l.initial.buffer)
    × (length l.trace ≡ length l.initial.trace)
    × (behind (take l.n l.buffer) (run_t l.at (name_from (512 - l.n) l.p) (l.w, l.trace)) ≡ run_t l.at (name_from 512 l.address) (l.w, l.initial.trace))
    × (drop l.n l.buffer ≡ drop l.n l.initial.buffer)
