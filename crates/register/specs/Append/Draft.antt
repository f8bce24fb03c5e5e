-- What each step of writing a record does to the bytes of the two buffers.
use Rattle.std.specs.Prelude.{if◌then◌else◌, ◌≡◌, ℕ, ◌+◌, ◌-◌, ◌*◌, ◌%◌, ◌^◌, ◌<◌, ◌≤◌, Bool, true, ◌&&◌, List, [], ◌∷◌, length, replicate, nat_le, nat_lt, slice_index, Option, Some, None}
use Rattle.std.proofs.Common.{arith, lt-ltb, le-ltb, leb-true}
use Rattle.std.proofs.Math.Decide.{dec_lt}
use Rattle.std.proofs.lemmas.List.Edits.{sets}
use Rattle.window.specs.Tests.{both}
use Rattle.window.specs.Word.{word_in, set_word_in}
use Rattle.register.specs.Words.{flat, words_in}
use Rattle.register.specs.Encode.{flag}
use Rattle.register.specs.Decode.{settled}
use Rattle.register.specs.declared.append.draft.Draft.{Draft}

-- "Lent bytes past 2^32 − 1 never count as free."
unfoldable pub room_in : ℕ → ℕ
room_in n = if nat_lt n 0xffff_ffff then n else 0xffff_ffff

pub room-inside : (n : ℕ) → room_in n ≤ n
unfolding room_in
room-inside n = elim (dec_lt n 0xffff_ffff) [
  | yes l ↦ rw (lt-ltb n 0xffff_ffff l) (omega arith)
  | no l ↦ rw (le-ltb n 0xffff_ffff (omega arith))
      (omega arith)
]

pub room_word : (n : ℕ) → room_in n < 2 ^ 32
unfolding room_in
room_word n = elim (dec_lt n 0xffff_ffff) [
  | yes l ↦ rw (lt-ltb n 0xffff_ffff l) (omega arith)
  | no l ↦ rw (le-ltb n 0xffff_ffff (omega arith))
      (omega arith)
]

-- the record bytes and the name bytes used
unfoldable pub used_bytes : List ℕ → ℕ
used_bytes records = slice_index (settled (words_in records)) 3

unfoldable pub used_names : List ℕ → ℕ
used_names records = slice_index (words_in records) 4

unfoldable pub longer : Draft → ℕ → Draft
longer d n = record { start = d.start; end = d.end + n; names = d.names; last = d.last }

unfoldable pub push_word : List ℕ → Draft → ℕ → Option Draft × List ℕ
push_word records d v =
    if nat_le (d.end + 4) (room_in (length records)) then (Some (longer d 4), set_word_in records d.end v) else (None, records)

unfoldable pub count_up : List ℕ → Draft → ℕ → List ℕ
count_up records d field =
    set_word_in records (d.start + 4 * field) ((word_in records (d.start + 4 * field) + 1) % 2 ^ 32)

-- the record's first eight words come before its end, its end is in the buffer, and its names' end is a word; a draft of which this is not
-- true is full
unfoldable pub opened : Draft → List ℕ → Bool
opened d records = nat_le (d.start + 32) d.end && (nat_le d.end (room_in (length records)) && nat_le d.last 0xffff_ffff)

pub opened-parts
    : (d : Draft) (records : List ℕ) → opened d records ≡ true
    → (d.start + 32 ≤ d.end) × (d.end ≤ room_in (length records)) × (d.last ≤ 0xffff_ffff)
unfolding opened
opened-parts d records e =
    let a = both (nat_le (d.start + 32) d.end) (nat_le d.end (room_in (length records)) && nat_le d.last 0xffff_ffff) e in
    let b = both (nat_le d.end (room_in (length records))) (nat_le d.last 0xffff_ffff) a.1 in (
      leb-true (d.start + 32) d.end a.0,
      leb-true d.end (room_in (length records)) b.0,
      leb-true d.last 0xffff_ffff b.1,
    )

unfoldable pub push_listed : List ℕ → Draft → ℕ → ℕ → Option Draft × List ℕ
push_listed records d field v =
    if opened d records && nat_le (d.end + 4) (room_in (length records))
    then (Some (longer d 4), count_up (set_word_in records d.end v) (longer d 4) field)
    else (None, records)

-- there is room for an export whose name has so many bytes
unfoldable pub export_fits : List ℕ → List ℕ → Draft → ℕ → Bool
export_fits records names d count =
    nat_le (d.end + 12) (room_in (length records)) && nat_le (d.last + count) (room_in (length names))

-- the first eight words of a record that has nothing yet but its name
unfoldable pub first_words : (base size : ℕ) → Bool → (q count : ℕ) → List ℕ
first_words base size auto q count = base ∷ size ∷ flag auto ∷ q ∷ count ∷ 0 ∷ 0 ∷ 0 ∷ []

unfoldable pub draft_at : (used named count : ℕ) → Draft
draft_at used named count = record { start = used; end = used + 32; names = named; last = named + count }

unfoldable pub begin_record : List ℕ → List ℕ → ℕ → ℕ → Bool → List ℕ → Option Draft × List ℕ × List ℕ
begin_record records names base size auto name =
    if nat_lt (slice_index (words_in records) 0) 64
    && (nat_le (used_bytes records + 32) (room_in (length records)) && nat_le (used_names records + length name) (room_in (length names)))
    then (
      Some (draft_at (used_bytes records) (used_names records) (length name)),
      sets records (used_bytes records) (flat (first_words base size auto (used_names records) (length name))),
      sets names (used_names records) name,
    )
    else (None, records, names)

-- the header counts the record, and its words and names as used
unfoldable pub finish_record : List ℕ → Draft → List ℕ
finish_record records d =
    if opened d records
    then set_word_in (set_word_in (set_word_in records 0 ((word_in records 0 + 1) % 2 ^ 32)) 12 d.end) 16 d.last
    else records

-- the record's bytes are free, and 0, again
unfoldable pub cleared : List ℕ → ℕ → ℕ → List ℕ
cleared bytes from to = sets bytes from (replicate (to - from) 0)

unfoldable pub given_up : List ℕ → List ℕ → Draft → List ℕ × List ℕ
given_up records names d = (cleared records d.start d.end, cleared names d.names d.last)
