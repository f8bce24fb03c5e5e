-- What is read from the three buffers, and whether they are an encoding of it.
use Rattle.std.specs.Prelude.{if◌then◌else◌, ◌≡◌, ℕ, zero, suc, ◌+◌, ◌-◌, ◌*◌, ◌/◌, Bool, true, false, ◌&&◌, List, [], ◌∷◌, length, take, drop, ◌==◌, ◌≢◌, slice_index, slice_set, refl, Option, Some, None}
use Rattle.std.proofs.Common.{get_or-set_other}
use Rattle.register.specs.Words.{part, same, all_zero, holds, words_in}
use Rattle.register.specs.Module.{Export, Module, Register, proper}
use Rattle.register.specs.Encode.{encode_words, record_names, slots}

-- named exports: triples of words, with their names among the name bytes
unfoldable pub export_at : List ℕ → List ℕ → ℕ → Export
export_at ws names k =
    record { name = part names (slice_index ws (3 * k)) (slice_index ws (3 * k + 1)); address = slice_index ws (3 * k + 2) }

-- n of them, the first being number k
unfoldable pub exports_from : ℕ → List ℕ → List ℕ → ℕ → List Export
exports_from zero ws names k = []
exports_from (suc n) ws names k = export_at ws names k ∷ exports_from n ws names (k + 1)

unfoldable pub exports_in : List ℕ → List ℕ → List Export
exports_in ws names = exports_from (length ws / 3) ws names 0

-- the words of the record that ws begins with
unfoldable pub module_size : List ℕ → ℕ
module_size ws = 8 + (slice_index ws 5 + (3 * slice_index ws 6 + slice_index ws 7))

unfoldable pub read_module : List ℕ → List ℕ → Module
read_module ws names =
    record {
      base = slice_index ws 0;
      size = slice_index ws 1;
      auto = (slice_index ws 2 == 1);
      name = part names (slice_index ws 3) (slice_index ws 4);
      segments = part ws 8 (slice_index ws 5);
      named = exports_in (part ws (8 + slice_index ws 5) (3 * slice_index ws 6)) names;
      indexed = part ws (8 + (slice_index ws 5 + 3 * slice_index ws 6)) (slice_index ws 7);
    }

unfoldable pub read_modules : ℕ → List ℕ → List ℕ → List Module
read_modules zero ws names = []
read_modules (suc n) ws names = read_module ws names ∷ read_modules n (drop (module_size ws) ws) names

unfoldable pub read_crs : ℕ → ℕ → Option ℕ
read_crs is base = if is == 1 then Some base else None

-- a slot's 16-bit length, lowest byte first, and its name
unfoldable pub slot_length : List ℕ → ℕ
slot_length s = slice_index s 0 + 256 * slice_index s 1

unfoldable pub slot_name : List ℕ → List ℕ
slot_name s = part s 2 (slot_length s)

unfoldable pub read_slots : ℕ → List ℕ → List (List ℕ)
read_slots zero bytes = []
read_slots (suc n) bytes = slot_name (take 514 bytes) ∷ read_slots n (drop 514 bytes)

-- "0 is read as 32 when no module stands"
unfoldable pub settled : List ℕ → List ℕ
settled ws = if slice_index ws 0 == 0 && slice_index ws 3 == 0 then slice_set ws 3 32 else ws

pub settled-other : (ws : List ℕ) (k : ℕ) → (k ≢ 3) → slice_index (settled ws) k ≡ slice_index ws k
unfolding settled
settled-other ws k n = go (slice_index ws 0 == 0 && slice_index ws 3 == 0)
  where
    go : (b : Bool) → slice_index (if b then slice_set ws 3 32 else ws) k ≡ slice_index ws k
    go true = get_or-set_other ws 3 k 32 0 n
    go false = refl

-- the words after the header, as far as they are used
unfoldable pub body : List ℕ → List ℕ
body ws = part ws 8 (slice_index ws 3 / 4 - 8)

unfoldable pub read_register : List ℕ → List ℕ → List ℕ → Register
read_register ws names missing =
    record {
      modules = read_modules (slice_index ws 0) (body ws) (take (slice_index ws 4) names);
      crs = read_crs (slice_index ws 1) (slice_index ws 2);
      missing = read_slots (slice_index ws 5) missing;
    }

-- the buffers are the encoding of r, with zeros after it: "unused bytes are 0", "a missing list of exactly 32,896 bytes"
unfoldable pub encodes : List ℕ → List ℕ → List ℕ → Register → Bool
encodes records names missing r =
    (same (take (length (encode_words r)) (settled (words_in records))) (encode_words r)
    && all_zero (drop (4 * length (encode_words r)) records))
    && (holds names (record_names r.modules) && (length missing == 32896 && holds missing (slots r.missing)))

unfoldable pub register_of : List ℕ → List ℕ → List ℕ → Register
register_of records names missing = read_register (settled (words_in records)) names missing

-- number 4's rule: they are "such an encoding of at most 64 records"
unfoldable pub is_register : List ℕ → List ℕ → List ℕ → Bool
is_register records names missing =
    proper (register_of records names missing) && encodes records names missing (register_of records names missing)

unfoldable pub decode : List ℕ → List ℕ → List ℕ → Option Register
decode records names missing =
    if is_register records names missing then Some (register_of records names missing) else None
