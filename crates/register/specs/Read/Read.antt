-- What is read from a register, over its modules in load order; and a record by its place in the records buffer.
use Rattle.std.specs.Prelude.{if◌then◌else◌, ◌≡◌, ℕ, ◌+◌, ◌*◌, Bool, true, List, [], ◌∷◌, length, take, drop, ◌==◌, nat_lt, slice_index, Option, Some, None}
use Rattle.register.specs.Words.{same, words_in}
use Rattle.register.specs.Module.{Export, Module, ascending}
use Rattle.register.specs.Encode.{flag}
use Rattle.register.specs.Decode.{read_module, read_modules, settled, body, is_register}
use Rattle.register.specs.declared.read.Record.{Record}

-- the buffers passed number 4's test, with some missing list
abbrev pub Encoded : List ℕ → List ℕ → Type 0
Encoded records names = (missing : List ℕ) × (is_register records names missing ≡ true)

-- the modules in load order
unfoldable pub modules_of : List ℕ → List ℕ → List Module
modules_of records names =
    read_modules (slice_index (settled (words_in records)) 0) (body (settled (words_in records))) (take (slice_index (settled (words_in records)) 4) names)

-- the bytes of a module's record
unfoldable pub module_bytes : Module → ℕ
module_bytes m = 4 * (8 + (length m.segments + (3 * length m.named + length m.indexed)))

-- where the record of the first module that passes the test begins, the first record of all standing at `place`
unfoldable pub place_from : ℕ → List Module → (Module → Bool) → Option ℕ
place_from place [] test = None
place_from place (m ∷ ms) test = if test m then Some place else place_from (place + module_bytes m) ms test

-- where the record after these modules' begins, the first one's standing at `place`
unfoldable pub place_after : ℕ → List Module → ℕ
place_after place [] = place
place_after place (m ∷ ms) = place_after (place + module_bytes m) ms

unfoldable pub has_base : ℕ → Module → Bool
has_base base m = m.base == base

unfoldable pub has_name : List ℕ → Module → Bool
has_name name m = same name m.name

-- the address of the export of that name
unfoldable pub address_of : List Export → List ℕ → Option ℕ
address_of [] name = None
address_of (x ∷ xs) name = if same name x.name then Some x.address else address_of xs name

unfoldable pub export_of : Module → List ℕ → Option ℕ
export_of m name = address_of m.named name

-- number i of a module's indexed exports or segments: "if the index is below the count"
unfoldable pub entry_of : List ℕ → ℕ → Option ℕ
entry_of l i = if nat_lt i (length l) then Some (slice_index l i) else None

unfoldable pub or_else : Option ℕ → Option ℕ → Option ℕ
or_else (Some a) s = Some a
or_else None s = s

-- "Named lookup uses auto-linked modules, itself included, in load order."
unfoldable pub lookup_in : List Module → List ℕ → Option ℕ
lookup_in [] name = None
lookup_in (m ∷ ms) name = if m.auto then or_else (export_of m name) (lookup_in ms name) else lookup_in ms name

-- what is read from the bytes at `place` on, whatever they are

unfoldable pub record_at : List ℕ → ℕ → Record
record_at records place =
    let ws = words_in (drop place records) in
    record {
      place = place;
      base = slice_index ws 0;
      size = slice_index ws 1;
      auto_link = slice_index ws 2;
      name_offset = slice_index ws 3;
      name_length = slice_index ws 4;
      segments = slice_index ws 5;
      named = slice_index ws 6;
      indexed = slice_index ws 7;
    }

abbrev pub record_end : Record → ℕ
record_end r = r.place + 4 * (8 + (r.segments + (3 * r.named + r.indexed)))

unfoldable pub module_at : List ℕ → List ℕ → ℕ → Module
module_at records names place = read_module (words_in (drop place records)) names

-- the exports of the record at `place` stand in ascending order of their names
unfoldable pub Sorted : List ℕ → List ℕ → ℕ → Type 0
Sorted records names place = ascending (module_at records names place).named ≡ true

-- the first words of a module's record at `place`, its names standing from `offset` on
abbrev pub record_of : ℕ → ℕ → Module → Record
record_of place offset m =
    record {
      place = place;
      base = m.base;
      size = m.size;
      auto_link = flag m.auto;
      name_offset = offset;
      name_length = length m.name;
      segments = length m.segments;
      named = length m.named;
      indexed = length m.indexed;
    }
