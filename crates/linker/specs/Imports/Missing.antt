-- What an import may leave of the register: the missing names alone are others.
use Rattle.std.specs.Prelude.{◌≡◌, ℕ, true, List, length}
use Rattle.window.specs.Word.{set_word_in}
use Rattle.window.specs.Trace.{State}
use Rattle.register.specs.Module.{Register}
use Rattle.register.specs.Decode.{register_of, is_register}
use Rattle.register.specs.Buffers.{encode_missing}
use Rattle.linker_spec.specs.Calls.{missing_now}

-- window and trace, the records and the missing list after a program that gave missing names and a state: header word 5 counts the
-- names, and all other record bytes stay; word 3 too, which is 0 or 32 where no module stands
abbrev pub imported : Register → List ℕ → List (List ℕ) × State → State × List ℕ × List ℕ
imported r records x = (x.1, set_word_in records 20 (length x.0), encode_missing (missing_now r x.0))

-- the bytes are r with those missing names
abbrev pub MissingAdded : Register → List ℕ → List ℕ → List ℕ → List (List ℕ) → Type 0
MissingAdded r records names missing ns =
    (is_register records names missing ≡ true) × (register_of records names missing ≡ missing_now r ns)
