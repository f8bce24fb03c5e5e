-- What a stored case says: a session file, made of pieces over zeros, and its text.
use Rattle.std.specs.Prelude.{if◌then◌else◌, ℕ, ◌+◌, ◌/◌, List, length, take, get_or, replicate, leb, Option, Some, None}
use Rattle.register.specs.Words.{words_in}
use Rattle.case_reader.specs.Pieces.{pieces}
use Rattle.text.specs.Text.{put}
use Rattle.session.specs.Session.{session_text}
use Rattle.session_cases.specs.declared.Case.{Case}

unfoldable pub placed : ℕ → ℕ × List ℕ → Option Case × List ℕ
placed next p = (Some (record { next = next; length = p.0 }), p.1)

-- the text of the session file that the first n bytes of a buffer are, if it has them
unfoldable pub text_of : ℕ → List ℕ → ℕ → List ℕ → Option Case × List ℕ
text_of next session n out =
    if leb n (length session) then placed next (put (session_text (take n session)) (0, out)) else (None, out)

-- what comes after the pieces of the session file
unfoldable pub and_then : Option ℕ × List ℕ → (ℕ → List ℕ → Option Case × List ℕ) → List ℕ → Option Case × List ℕ
and_then (Some e, b) f out = f e b
and_then (None, b) f out = (None, out)

-- the case at a place: a length, a number of pieces, and the pieces, laid over a buffer
unfoldable pub case_over : List ℕ → List ℕ → List ℕ → ℕ → List ℕ → Option Case × List ℕ
case_over b file ws at out =
    and_then (pieces (get_or ws (at + 1) 0) file (at + 2) b) (λ next session. text_of next session (get_or ws at 0) out) out

unfoldable pub case_at : List ℕ → ℕ → List ℕ → Option Case × List ℕ
case_at file at out =
    if leb (at + 2) (length file / 4) then case_over (replicate 49156 0) file (words_in file) at out else (None, out)
