-- What a stored case says of its buffers: they are made of pieces over zeros, and what is left is compared.
use Rattle.std.specs.Prelude.{if◌then◌else◌, ℕ, ◌+◌, ◌/◌, List, length, get_or, leb, Option, Some, None, Result, Ok, Err}
use Rattle.register.specs.Words.{words_in, same}
use Rattle.case_reader.specs.Pieces.{pieces}
use Rattle.linker_spec.specs.Outcome.{Buffers}
use Rattle.call_cases.specs.declared.buffers.Difference.{Difference}
use Rattle.call_cases.specs.declared.buffers.Difference.TheVariants.{Window, Records, Names, Missing}

-- the changes over a buffer that has been laid, the other one being b
unfoldable pub change : ℕ → List ℕ → ℕ → List ℕ → Option ℕ × List ℕ → Option ℕ × List ℕ × List ℕ
change m file next b (Some e, a) =
    let z = pieces m file next a in
    (z.0, b, z.1)
change m file next b (None, a) = (None, b, a)

-- the same pieces over the second buffer, then the changes
unfoldable pub lays : (n m : ℕ) → List ℕ → (at : ℕ) → List ℕ → Option ℕ × List ℕ → Option ℕ × List ℕ × List ℕ
lays n m file at a (Some next, b) = change m file next b (pieces n file at a)
lays n m file at a (None, b) = (None, b, a)

-- two buffers at a place: two numbers of pieces, and the pieces
unfoldable pub laid : List ℕ → ℕ → List ℕ → List ℕ → Option ℕ × List ℕ × List ℕ
laid file at b a =
    if leb at (length file / 4) then (
    let n = get_or (words_in file) at 0 in
    lays n (get_or (words_in file) (at + 1) 0) file (at + 2) a (pieces n file (at + 2) b)) else (None, b, a)

-- the first buffer that differs
unfoldable pub compared : Buffers → Buffers → Result (Unit {0}) Difference
compared b a =
    if same b.window a.window then (
    if same b.records a.records then (
    if same b.names a.names then (
    if same b.missing a.missing then Ok tt else Err Missing) else Err Names) else Err Records) else Err Window
