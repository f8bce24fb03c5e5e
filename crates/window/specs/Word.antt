-- A word in four bytes of a list, from place i on: what an access does where all of the word is inside.
use Rattle.std.specs.Prelude.{ℕ, ◌+◌, ◌/◌, ◌%◌, List, slice_index, slice_set}
use Rattle.window.specs.Bytes.{join}

-- Document 01: "A word is four bytes, lowest first."
unfoldable pub word_in : List ℕ → ℕ → ℕ
word_in w i = join (slice_index w i) (slice_index w (i + 1)) (slice_index w (i + 2)) (slice_index w (i + 3))

-- the same four bytes, highest first: such numbers stand in the order of their bytes
unfoldable pub high_word_in : List ℕ → ℕ → ℕ
high_word_in w i = join (slice_index w (i + 3)) (slice_index w (i + 2)) (slice_index w (i + 1)) (slice_index w i)

unfoldable pub set_word_in : List ℕ → ℕ → ℕ → List ℕ
set_word_in w i v =
    slice_set (slice_set (slice_set (slice_set w i (v % 256)) (i + 1) (v / 256 % 256)) (i + 2) (v / 256 / 256 % 256)) (i + 3) (v / 256 / 256 / 256 % 256)
