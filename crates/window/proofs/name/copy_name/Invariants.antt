-- The invariant: the bytes in the buffer and the name still to be read from place n on are the name; the rest of the buffer is as at entry.
use Rattle.std.proofs.Common.{◌≡◌, ◌-◌, ◌≤◌, ◌++◌, length, take, drop}
use Rattle.window.specs.Access.{run}
use Rattle.window.specs.Name.{name_from}
use Rattle.window.proofs.name.copy_name.Given as goal

abbrev pub invariant-loop-n : goal.invariant-loop-n
invariant-loop-n l =
    (l.n ≤ 512)
    × (length l.buffer ≡ length l.initial.buffer)
    × (take l.n l.buffer ++ (run 0 (name_from (512 - l.n) l.n) l.w).0 ≡ (run 0 (name_from 512 0) l.w).0)
    × (drop l.n l.buffer ≡ drop l.n l.initial.buffer)
