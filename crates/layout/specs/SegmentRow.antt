-- Where the entry of a segment stands, if all that a lookup reads is inside: the lookup then needs no test of its own for each word.
use Rattle.std.specs.Prelude.{if◌then◌else◌, ℕ, ◌+◌, List, length, nat_lt, Option, Some, None}
use Rattle.window.specs.Memory.{◌⊕◌}
use Rattle.window.specs.Word.{word_in}
use Rattle.window.specs.Row.{row_of}
use Rattle.layout.specs.Header.{segment_table_offset, segment_entry_size}
use Rattle.layout.specs.Segments.{entry_at}

-- from where the header's table offset stands; the count is the next word
unfoldable pub entry_row : (at : ℕ) → List ℕ → ℕ → Option ℕ → Option ℕ
entry_row at w i (Some head) =
    if nat_lt i (word_in w (head + 4)) then row_of at (length w) (entry_at (word_in w head) i segment_entry_size) 12 else None
entry_row at w i None = None

unfoldable pub segment_row : (at : ℕ) → List ℕ → (base i : ℕ) → Option ℕ
segment_row at w base i = entry_row at w i (row_of at (length w) (base ⊕ segment_table_offset) 8)
