-- The head of a session file. Document 01: "one file of little-endian words: step count, step table offset, window address,
-- window length, offset of the window's bytes; then the parts."
use Rattle.std.specs.Prelude.{ℕ, List, get_or}
use Rattle.register.specs.Words.{words_in}

unfoldable pub head_word : List ℕ → ℕ → ℕ
head_word file i = get_or (words_in file) i 0

abbrev pub step_count : List ℕ → ℕ
step_count file = head_word file 0

abbrev pub step_table : List ℕ → ℕ
step_table file = head_word file 1

abbrev pub window_address : List ℕ → ℕ
window_address file = head_word file 2

abbrev pub window_length : List ℕ → ℕ
window_length file = head_word file 3

abbrev pub window_offset : List ℕ → ℕ
window_offset file = head_word file 4
