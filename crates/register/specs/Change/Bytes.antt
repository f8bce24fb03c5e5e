-- What each change does to the bytes of the buffers.
use Rattle.std.specs.Prelude.{if◌then◌else◌, ℕ, zero, suc, ◌+◌, ◌*◌, ◌/◌, ◌%◌, Bool, ◌&&◌, List, ◌∷◌, ◌++◌, length, take, drop, replicate, ◌==◌, nat_le, nat_lt}
use Rattle.std.proofs.lemmas.List.Edits.{sets}
use Rattle.window.specs.Memory.{◌⊖◌}
use Rattle.window.specs.Word.{word_in, set_word_in}

-- header words 1 and 2, where there is a header
unfoldable pub set_crs : List ℕ → ℕ → List ℕ
set_crs records base = if nat_lt (length records) 32 then records else set_word_in (set_word_in records 4 1) 8 base

-- a 16-bit length, lowest byte first, and the name
unfoldable pub put_slot : List ℕ → ℕ → List ℕ → List ℕ
put_slot missing place name = sets missing place (length name % 256 ∷ length name / 256 ∷ name)

-- the lengths of a register's buffers and of a name
unfoldable pub takes_name : (records missing count : ℕ) → Bool
takes_name records missing count = nat_le 32 records && (missing == 32896 && nat_le count 512)

-- "Missing names stop at 64"; word 5 counts them
unfoldable pub push_missing : List ℕ → List ℕ → List ℕ → List ℕ × List ℕ
push_missing records missing name =
    if takes_name (length records) (length missing) (length name) && nat_lt (word_in records 20) 64
    then (set_word_in records 20 (word_in records 20 + 1), put_slot missing (514 * word_in records 20) name)
    else (records, missing)

-- the gap at `from` closed, and as many zeros at the end
unfoldable pub closed : List ℕ → ℕ → ℕ → List ℕ
closed bytes from gap = take from bytes ++ (drop (from + gap) bytes ++ replicate gap 0)

-- name offsets that fall by d

unfoldable pub lower_word : List ℕ → ℕ → ℕ → List ℕ
lower_word bytes place d = set_word_in bytes place (word_in bytes place ⊖ d)

-- of n exports from `place` on
unfoldable pub lower_exports : (count : ℕ) → List ℕ → (place d : ℕ) → List ℕ
lower_exports zero bytes place d = bytes
lower_exports (suc n) bytes place d = lower_exports n (lower_word bytes place d) (place + 12) d

-- of the record at `place`: its own, in word 3, and its exports'
unfoldable pub lower_record : List ℕ → ℕ → ℕ → List ℕ
lower_record bytes place d =
    lower_exports (word_in bytes (place + 24)) (lower_word bytes (place + 12) d) (place + 4 * (8 + word_in bytes (place + 20))) d

-- where the names end of the record before `next`: at the next record's own, or with the last ones
unfoldable pub names_end : List ℕ → ℕ → ℕ
names_end records next = if nat_lt next (word_in records 12) then word_in records (next + 12) else word_in records 16

-- a record less, of `size` record bytes and `gap` name bytes
unfoldable pub lower_header : List ℕ → ℕ → ℕ → List ℕ
lower_header records size gap = lower_word (lower_word (lower_word records 0 1) 12 size) 16 gap

-- the record of `size` bytes at `place` out, with the later ones' bytes as given
unfoldable pub cut_record : List ℕ → (place size gap : ℕ) → List ℕ → List ℕ
cut_record records place size gap later =
    lower_header (closed (take (place + size) records ++ (later ++ drop (word_in records 12) records)) place size) size gap
