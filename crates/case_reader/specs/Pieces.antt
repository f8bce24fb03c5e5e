-- Pieces of a stored buffer: what they leave in it, and the place after them.
use Rattle.std.specs.Prelude.{if◌then◌else◌, ℕ, zero, suc, ◌+◌, ◌*◌, ◌/◌, List, length, get_or, leb, Option, Some, None}
use Rattle.register.specs.Words.{words_in, part}
use Rattle.case_reader.specs.Append.{appended}

-- the bytes of the piece at a place, as its second word says, and the words that it takes
unfoldable pub piece_length : List ℕ → ℕ → ℕ
piece_length file at = get_or (words_in file) (at + 1) 0

unfoldable pub piece_size : ℕ → ℕ
piece_size n = 2 + (n + 3) / 4

-- the place after a piece that was laid
unfoldable pub placed : ℕ → Option ℕ × List ℕ → Option ℕ × List ℕ
placed e (Some i, b) = (Some e, b)
placed e (None, b) = (None, b)

unfoldable pub piece : List ℕ → ℕ → List ℕ → Option ℕ × List ℕ
piece file at b =
    if leb (at + piece_size (piece_length file at)) (length file / 4)
    then placed (at + piece_size (piece_length file at))
    (appended (part file (4 * (at + 2)) (piece_length file at)) (get_or (words_in file) at 0) b)
    else (None, b)

-- what comes after a piece that was laid
unfoldable pub and_then : Option ℕ × List ℕ → (ℕ → List ℕ → Option ℕ × List ℕ) → Option ℕ × List ℕ
and_then (Some e, b) f = f e b
and_then (None, b) f = (None, b)

unfoldable pub pieces : ℕ → List ℕ → ℕ → List ℕ → Option ℕ × List ℕ
pieces zero file at b = (Some at, b)
pieces (suc k) file at b = and_then (piece file at b) (pieces k file)
