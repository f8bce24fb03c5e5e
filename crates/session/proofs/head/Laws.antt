-- What the code of `are_parts_inside` finds.
use Prim.Native.Nat.{ℕ, ◌+◌, ◌*◌, ◌≤◌}
use mathlib.Core.Path.{◌≡◌}
use mathlib.Core.List.{List}
use mathlib.Core.Bool.{Bool, ◌&&◌}
use lib.ListN.{length}
use lib.Dec.{leb}
use borrow.Author.Tests.{le-leb}
use Rattle.session.specs.Head.{head_word}

abbrev pub parts : List ℕ → Bool
parts file = leb (head_word file 1 + 36 * head_word file 0) (length file) && leb (head_word file 4 + head_word file 3) (length file)

-- the table is inside, so whether the window is inside too is left
pub window_left : (file : List ℕ) {table count offset size : ℕ} → table ≡ head_word file 1 → count ≡ head_word file 0
    → table + 36 * count ≤ length file → offset ≡ head_word file 4 → size ≡ head_word file 3 → leb (offset + size) (length file) ≡ parts file
window_left file t n h o s = rw (← t, ← n, ← o, ← s, le-leb _ _ h)
