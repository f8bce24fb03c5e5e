-- The test as the code makes it, record by record, and that it is `is_register`.
use Rattle.std.specs.Prelude.{if◌then◌else◌, ℕ, zero, suc, ◌+◌, ◌-◌, ◌*◌, ◌/◌, ◌%◌, Bool, true, false, ◌&&◌, ◌||◌, List, length, take, drop, ◌==◌, nat_le, slice_index, Option, Some, None}
use Rattle.window.specs.Name.{no_zero}
use Rattle.register.specs.Words.{part, all_zero, words_in}
use Rattle.register.specs.Module.{ascending}
use Rattle.register.specs.Decode.{exports_in, module_size, slot_length, slot_name, settled}

-- a name stands at q, the running sum of the lengths before it
unfoldable pub name_ok : List ℕ → (q offset count : ℕ) → Bool
name_ok names q offset count =
    (offset == q) && (nat_le count 512 && (nat_le (offset + count) (length names) && no_zero (part names offset count)))

unfoldable pub exports_end : (count : ℕ) → List ℕ → List ℕ → (k q : ℕ) → Option ℕ
exports_end zero ws names k q = Some q
exports_end (suc n) ws names k q =
    if name_ok names q (slice_index ws (3 * k)) (slice_index ws (3 * k + 1)) then exports_end n ws names (k + 1) (q + slice_index ws (3 * k + 1))
    else None

unfoldable pub fixed_ok : List ℕ → List ℕ → ℕ → Bool
fixed_ok ws names q =
    nat_le 8 (length ws)
    && (nat_le (module_size ws) (length ws)
    && (nat_le (slice_index ws 2) 1 && (nat_le (slice_index ws 5) 16 && name_ok names q (slice_index ws 3) (slice_index ws 4))))

-- the words of the record's named exports
unfoldable pub export_part : List ℕ → List ℕ
export_part ws = part ws (8 + slice_index ws 5) (3 * slice_index ws 6)

unfoldable pub module_end : List ℕ → List ℕ → ℕ → Option ℕ
module_end ws names q =
    if fixed_ok ws names q && ascending (exports_in (export_part ws) names)
    then exports_end (length (export_part ws) / 3) (export_part ws) names 0 (q + slice_index ws 4)
    else None

abbrev pub after : Option ℕ → (ℕ → Bool) → Bool
after (Some q) f = f q
after None f = false

unfoldable pub modules_ok : ℕ → List ℕ → List ℕ → ℕ → Bool
modules_ok zero ws names q = length ws == 0 && q == length names
modules_ok (suc n) ws names q = after (module_end ws names q) (modules_ok n (drop (module_size ws) ws) names)

unfoldable pub slot_ok : List ℕ → Bool
slot_ok s = nat_le (slot_length s) 512 && (no_zero (slot_name s) && all_zero (drop (2 + slot_length s) s))

unfoldable pub slots_ok : ℕ → List ℕ → Bool
slots_ok zero bytes = true
slots_ok (suc n) bytes = slot_ok (take 514 bytes) && slots_ok n (drop 514 bytes)

-- the header's counts and flags
unfoldable pub counts_ok : List ℕ → Bool
counts_ok ws =
    nat_le (slice_index ws 0) 64
    && (nat_le (slice_index ws 5) 64
    && (slice_index ws 6 == 0 && (slice_index ws 7 == 0 && (slice_index ws 1 == 1 || (slice_index ws 1 == 0 && slice_index ws 2 == 0)))))

-- the bytes used, of so many records bytes and name bytes
unfoldable pub sizes_ok : (used named records names : ℕ) → Bool
sizes_ok used named records names = nat_le 32 used && (nat_le used records && (used % 4 == 0 && nat_le named names))

-- n records in `used` bytes, their names in `named` bytes, k slots, and zeros after each
unfoldable pub contents_ok : (n used named k : ℕ) → List ℕ → List ℕ → List ℕ → Bool
contents_ok n used named k records names missing =
    modules_ok n (words_in (part records 32 (used - 32))) (take named names) 0
    && (slots_ok k missing
    && (all_zero (drop used records) && (all_zero (drop named names) && all_zero (drop (514 * k) missing))))

-- the whole test, over the words with word 3 settled
unfoldable pub checked : List ℕ → List ℕ → List ℕ → List ℕ → Bool
checked ws records names missing =
    counts_ok ws
    && (sizes_ok (slice_index ws 3) (slice_index ws 4) (length records) (length names)
    && (length missing == 32896 && contents_ok (slice_index ws 0) (slice_index ws 3) (slice_index ws 4) (slice_index ws 5) records names missing))

unfoldable pub passes : List ℕ → List ℕ → List ℕ → Bool
passes records names missing = nat_le 32 (length records) && checked (settled (words_in records)) records names missing
