use Rattle.std.proofs.Common.{◌≡◌, ◌-◌, length}
use Rattle.register.specs.Words.{flat}
use Rattle.register.specs.Encode.{record_words}
use Rattle.register.specs.Change.Lower.{RecordsFrom, Walked}
use Rattle.register.proofs.change.lower.lower_records.Given as goal

abbrev pub invariant-loop-place : goal.invariant-loop-place
invariant-loop-place l =
    (length l.bytes ≡ length l.initial.bytes) × ((s : RecordsFrom l.d l.initial.bytes) → Walked l.d l.place l.bytes (flat (record_words (s.from - l.d) s.modules)))

abbrev pub decreases-loop-place : goal.decreases-loop-place
decreases-loop-place l = length l.initial.bytes - l.place
