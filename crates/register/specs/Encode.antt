-- Document 01, "The register": the words of the records buffer, the name bytes, and the slots of the missing list.
use Rattle.std.specs.Prelude.{ℕ, ◌+◌, ◌-◌, ◌*◌, ◌/◌, ◌%◌, Bool, true, false, List, [], ◌∷◌, ◌++◌, length, replicate, Option, Some, None}
use Rattle.register.specs.Module.{Export, Module, Register}

-- "named exports (name offset, length, address)"; q is the offset of the first one's name
unfoldable pub export_words : ℕ → List Export → List ℕ
export_words q [] = []
export_words q (x ∷ xs) = q ∷ length x.name ∷ x.address ∷ export_words (q + length x.name) xs

unfoldable pub export_names : List Export → List ℕ
export_names [] = []
export_names (x ∷ xs) = x.name ++ export_names xs

-- "Names .. are packed in record order, a module's own before its exports'"
unfoldable pub module_names : Module → List ℕ
module_names m = m.name ++ export_names m.named

unfoldable pub flag : Bool → ℕ
flag true = 1
flag false = 0

-- "base, size, auto-link (0 or 1), name offset, name length, segments, named, indexed; then segment addresses, named exports
-- and indexed addresses"
unfoldable pub module_words : ℕ → Module → List ℕ
module_words q m =
    m.base
    ∷ m.size
    ∷ flag m.auto
    ∷ q
    ∷ length m.name
    ∷ length m.segments
    ∷ length m.named
    ∷ length m.indexed
    ∷ (m.segments ++ (export_words (q + length m.name) m.named ++ m.indexed))

unfoldable pub record_words : ℕ → List Module → List ℕ
record_words q [] = []
record_words q (m ∷ ms) = module_words q m ++ record_words (q + length (module_names m)) ms

unfoldable pub record_names : List Module → List ℕ
record_names [] = []
record_names (m ∷ ms) = module_names m ++ record_names ms

unfoldable pub crs_known : Option ℕ → ℕ
crs_known None = 0
crs_known (Some base) = 1

-- "CRS base (0 if unknown)"
unfoldable pub crs_base : Option ℕ → ℕ
crs_base None = 0
crs_base (Some base) = base

-- "Header words 0 to 7: modules, CRS known, CRS base, record bytes used (header included), name bytes used, missing count, 0, 0"
unfoldable pub encode_words : Register → List ℕ
encode_words r =
    length r.modules
    ∷ crs_known r.crs
    ∷ crs_base r.crs
    ∷ 4 * (8 + length (record_words 0 r.modules))
    ∷ length (record_names r.modules)
    ∷ length r.missing
    ∷ 0
    ∷ 0
    ∷ record_words 0 r.modules

-- "64 slots: 16-bit length, 512 bytes"
unfoldable pub slot : List ℕ → List ℕ
slot name = length name % 256 ∷ length name / 256 ∷ (name ++ replicate (512 - length name) 0)

unfoldable pub slots : List (List ℕ) → List ℕ
slots [] = []
slots (n ∷ ns) = slot n ++ slots ns
