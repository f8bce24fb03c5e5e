use Rattle.std.proofs.Common.{◌≡◌, ℕ, ◌+◌, ◌*◌, ◌/◌, ◌^◌, ◌<◌, ◌≤◌, List, length, take}
use Rattle.register.specs.Encode.{export_names}
use Rattle.linker.specs.Exports.Waiting.{Waiting, Waits, exports_for}
use Rattle.linker.specs.Exports.Naming.{NamesLeft}
use Rattle.linker.proofs.waiting.write_names.Given as goal

abbrev pub invariant-loop-k : goal.invariant-loop-k
invariant-loop-k l =
    (length l.waiting ≡ length l.initial.waiting) × (length l.names ≡ length l.initial.names) × (l.offset < 2 ^ 32) × (l.k ≤ length l.initial.waiting / 12)
    × ((xs : List Waiting) (first : ℕ) → length l.initial.waiting ≡ 12 * length xs → Waits l.at l.w xs (take (8 * length xs) l.initial.waiting)
    → first + length (export_names (exports_for l.at l.w xs)) ≡ l.last → NamesLeft l.at l.w xs l.initial.names l.last l.k l.offset l.waiting l.names)
