-- What a stored case says: three buffers, made of pieces over zeros, and number 4's rule on them.
use Rattle.std.specs.Prelude.{if◌then◌else◌, ℕ, ◌+◌, ◌/◌, List, Bool, ◌&&◌, length, take, get_or, replicate, leb, Option, Some, None}
use Rattle.register.specs.Words.{words_in}
use Rattle.register.specs.Decode.{is_register}
use Rattle.case_reader.specs.Pieces.{pieces}
use Rattle.register_cases.specs.declared.Verdict.{Verdict}

abbrev pub verdict : Bool → ℕ → Verdict
verdict valid next = record { valid = valid; next = next }

-- the verdict on the first r, n and m bytes of the buffers, if they have them
unfoldable pub judged : (next : ℕ) → List ℕ → (r : ℕ) → List ℕ → (n : ℕ) → List ℕ → (m : ℕ) → Option Verdict
judged next records r names n missing m =
    if leb r (length records) && (leb n (length names) && leb m (length missing))
    then Some (verdict (is_register (take r records) (take n names) (take m missing)) next)
    else None

-- what comes after the pieces of a buffer
unfoldable pub and_then : Option ℕ × List ℕ → (ℕ → List ℕ → Option Verdict) → Option Verdict
and_then (Some e, b) f = f e b
and_then (None, b) f = None

-- the case at a place: three lengths, three numbers of pieces, and the pieces, laid over three buffers
unfoldable pub case_over : List ℕ → List ℕ → List ℕ → List ℕ → List ℕ → ℕ → Option Verdict
case_over b₁ b₂ b₃ file ws at =
    and_then (pieces (get_or ws (at + 3) 0) file (at + 6) b₁) (λ e₁ records.
    and_then (pieces (get_or ws (at + 4) 0) file e₁ b₂) (λ e₂ names.
    and_then (pieces (get_or ws (at + 5) 0) file e₂ b₃) (λ next missing.
    judged next records (get_or ws at 0) names (get_or ws (at + 1) 0) missing (get_or ws (at + 2) 0))))

unfoldable pub case_at : List ℕ → ℕ → Option Verdict
case_at file at =
    if leb at (length file / 4)
    then case_over (replicate 8192 0) (replicate 8192 0) (replicate 32900 0) file (words_in file) at
    else None
