-- The invariant: of the first i external and the first j internal words no two overlap, and `last` is at least the key of each.
use Prim.Native.Nat.{◌+◌, ◌≤◌}
use mathlib.Core.Path.{◌≡◌}
use Rattle.history.specs.Image.{count, internals}
use Rattle.writer_spec.specs.Description.{file_of}
use Rattle.writer.proofs.apart.Laws.{Walked}
use Rattle.writer.proofs.apart.words_apart.Given as goal

abbrev pub invariant-loop-turn : goal.invariant-loop-turn
invariant-loop-turn l =
    (l.i + l.j ≡ l._turn) × (l.i ≤ l.words.external_count) × (l.j ≤ count (file_of l.words.bytes.now) internals) × Walked (file_of l.words.bytes.now) l.words.kinds.now l.words.room l.i l.j l.last
