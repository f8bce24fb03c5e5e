-- What the relocated words must be, computed without a place: where each stands in the image or in the lent areas, that it lies in them wherever
-- they are, and that it meets no other and nothing else that the linker reads or writes.
use Rattle.std.specs.Prelude.{if◌then◌else◌, ℕ, zero, suc, ◌+◌, ◌-◌, ◌*◌, ◌/◌, ◌%◌, ◌^◌, max, List, [], ◌∷◌, Bool, true, false, not, ◌&&◌, ◌||◌, eqb, ltb, leb}
use Rattle.window.specs.Mirror.{word}
use Rattle.layout.specs.Header.{module_name_offset, export_strings_offset, import_strings_offset, header_size}
use Rattle.layout.specs.Format.{tag_segment, tag_offset}
use Rattle.layout.specs.declared.format.SegmentType.{SegmentType}
use Rattle.layout.specs.declared.format.SegmentType.TheVariants.{Code, RoData, Data, Bss}
use Rattle.history.specs.Image.{Table, segments, named_exports, indexed_exports, module_entries, externals, named_imports, indexed_imports, anonymous_imports, internals, start, count, entry, file_segment, tag, kind, symbol_segment}
use Rattle.writer_spec.specs.All.{all_below}
use Rattle.writer_spec.specs.Runs.{run_pointer, run_length, indexed_run, anonymous_run}
use Rattle.writer_spec.specs.declared.words.WordPlace.{WordPlace}
use Rattle.writer_spec.specs.declared.words.WordPlace.TheVariants.{InImage, InData, InBss, Nowhere}
use Rattle.writer_spec.specs.declared.words.Room.{Room}

-- a relocation kind is one of those that count
unfoldable pub counts : List ℕ → ℕ → Bool
counts [] k = false
counts (x ∷ xs) k = eqb x k || counts xs k

-- kinds 2, 3 and 10 write a word
abbrev pub word_kinds : List ℕ
word_kinds = 2 ∷ 3 ∷ 10 ∷ []

-- a word at offset t of a segment at offset o, written by the external table; and by the internal one, which writes into Data at the old place,
-- from the last Data segment on
abbrev pub external_in : SegmentType → (o t : ℕ) → WordPlace
external_in Code o t = InImage (o + t)
external_in RoData o t = InImage (o + t)
external_in Data o t = InData t
external_in Bss o t = InBss t

abbrev pub internal_in : SegmentType → (o last t : ℕ) → WordPlace
internal_in Code o last t = InImage (o + t)
internal_in RoData o last t = InImage (o + t)
internal_in Data o last t = InImage (last + t)
internal_in Bss o last t = InBss t

-- the size of a Data (a Bss) segment, else 0
abbrev pub data_bytes : SegmentType → ℕ → ℕ
data_bytes Data n = n
data_bytes Code n = 0
data_bytes RoData n = 0
data_bytes Bss n = 0

abbrev pub bss_bytes : SegmentType → ℕ → ℕ
bss_bytes Bss n = n
bss_bytes Code n = 0
bss_bytes RoData n = 0
bss_bytes Data n = 0

module _ (F : ℕ → ℕ) where
  -- the greatest size of a Data and of a Bss segment among the first n, and where the last Data segment of size above 0 starts
  unfoldable pub data_room : ℕ → ℕ
  data_room zero = 0
  data_room (suc n) = max (data_room n) (data_bytes (file_segment F n).kind (file_segment F n).size)

  unfoldable pub bss_room : ℕ → ℕ
  bss_room zero = 0
  bss_room (suc n) = max (bss_room n) (bss_bytes (file_segment F n).kind (file_segment F n).size)

  unfoldable pub last_data : ℕ → ℕ
  last_data zero = 0
  last_data (suc n) =
      if eqb (data_bytes (file_segment F n).kind (file_segment F n).size) 0 then last_data n else (file_segment F n).offset

  abbrev pub room_of : ℕ → Room
  room_of size =
      record {
        size = size;
        data_size = data_room (count F segments);
        bss_size = bss_room (count F segments);
        last_data = last_data (count F segments);
      }

  -- a tag is usable: its segment exists and has that offset
  unfoldable pub usable : ℕ → Bool
  usable t = ltb (tag_segment t) (count F segments) && ltb (tag_offset t) (file_segment F (tag_segment t)).size

  unfoldable pub external_word : List ℕ → ℕ → WordPlace
  external_word kinds i =
      if counts kinds (kind F externals i) && usable (tag F externals i) then
      external_in (file_segment F (tag_segment (tag F externals i))).kind (file_segment F (tag_segment (tag F externals i))).offset
      (tag_offset (tag F externals i))
      else Nowhere

  unfoldable pub internal_word : List ℕ → (last i : ℕ) → WordPlace
  internal_word kinds last i =
      if counts kinds (kind F internals i) && (ltb (symbol_segment F i) (count F segments) && usable (tag F internals i)) then
      internal_in (file_segment F (tag_segment (tag F internals i))).kind (file_segment F (tag_segment (tag F internals i))).offset last
      (tag_offset (tag F internals i))
      else Nowhere

  -- the words of both tables, one table after the other
  unfoldable pub word_count : ℕ
  word_count = count F externals + count F internals

  unfoldable pub number_of_word : List ℕ → (last i : ℕ) → WordPlace
  number_of_word kinds last i =
      if ltb i (count F externals) then external_word kinds i else internal_word kinds last (i - count F externals)

-- the addresses that no place fills: at least 0 and 2^32 - 1
abbrev pub free : Room → ℕ
free room = 2 ^ 32 - (room.size + (room.data_size + room.bss_size))

-- "some place exists": image, data and bss fit between 0 and 2^32 - 1
unfoldable pub place_exists : Room → Bool
place_exists room = leb (room.size + (room.data_size + room.bss_size) + 2) (2 ^ 32)

-- a word past the image's end, e bytes past it, lies in the lent areas wherever they are
unfoldable pub far_inside : Room → ℕ → Bool
far_inside room e =
    leb (free room) e && (leb (e + 4) room.data_size && (leb (e + 4) room.bss_size || leb (room.bss_size + free room) e))

-- "every relocated word lie in its own areas", in each place
unfoldable pub word_inside : Room → WordPlace → Bool
word_inside room (InImage c) = if leb c room.size then leb (c + 4) room.size else far_inside room (c - room.size)
word_inside room (InData t) = leb (t + 4) room.data_size
word_inside room (InBss t) = leb (t + 4) room.bss_size
word_inside room Nowhere = true

-- two words at these offsets of one area do not overlap
abbrev pub words_clear : ℕ → ℕ → Bool
words_clear c e = leb (c + 4) e || leb (e + 4) c

-- "No relocated word overlaps another": in one area
unfoldable pub places_apart : WordPlace → WordPlace → Bool
places_apart (InImage c) (InImage e) = words_clear c e
places_apart (InData c) (InData e) = words_clear c e
places_apart (InBss c) (InBss e) = words_clear c e
places_apart (InImage c) (InData e) = true
places_apart (InImage c) (InBss e) = true
places_apart (InImage c) Nowhere = true
places_apart (InData c) (InImage e) = true
places_apart (InData c) (InBss e) = true
places_apart (InData c) Nowhere = true
places_apart (InBss c) (InImage e) = true
places_apart (InBss c) (InData e) = true
places_apart (InBss c) Nowhere = true
places_apart Nowhere b = true

-- a word e bytes past the image's end does not overlap one at offset t of an area that can start s to s + free bytes past it
abbrev pub far_clear : (e t s free : ℕ) → Bool
far_clear e t s free = ltb (e + 3) (s + t) || ltb (s + (t + (free + 3))) e

-- a word past the image's end overlaps none in the lent areas, in each place: the data area starts at most `free` bytes past the image or past bss
unfoldable pub far_past : Room → ℕ → WordPlace → Bool
far_past room e (InImage c) = true
far_past room e (InData t) = far_clear e t 0 (free room) && far_clear e t room.bss_size (free room)
far_past room e (InBss t) = far_clear e t 0 (free room)
far_past room e Nowhere = true

-- how many bytes past the image's end a word starts, 0 for one that does not
unfoldable pub past_image : Room → WordPlace → ℕ
past_image room (InImage c) = c - room.size
past_image room (InData t) = 0
past_image room (InBss t) = 0
past_image room Nowhere = 0

unfoldable pub far_apart : Room → WordPlace → WordPlace → Bool
far_apart room a b = eqb (past_image room a) 0 || far_past room (past_image room a) b

module _ (F : ℕ → ℕ) where
  unfoldable pub in_table : Table → ℕ → Bool
  in_table t o = leb (start F t) o && ltb o (entry F t (count F t))

  -- "what an import asks for, its first word, is read if .. the run of a module entry has it"; o is the offset of an import's entry
  unfoldable pub in_run : (r j o : ℕ) → Bool
  in_run r j o =
      leb (run_pointer F r j) o && (eqb ((o - run_pointer F r j) % 8) 0 && ltb ((o - run_pointer F r j) / 8) (run_length F r j))

  unfoldable pub asked : (r o : ℕ) → Bool
  asked r o = not (all_below (count F module_entries) (λ j. not (in_run r j o)))

  -- a byte of an indexed or anonymous import that the linker reads
  unfoldable pub import_byte : Table → (r o : ℕ) → Bool
  import_byte t r o =
      in_table t o && (leb 4 ((o - start F t) % 8) || asked r (start F t + (o - start F t) / 8 * 8))

  -- a byte of a string area that the linker reads: all but the zero after a name of 512 bytes
  unfoldable pub long_before : (o n : ℕ) → Bool
  long_before o n = all_below n (λ i. not (eqb (F (o - suc i)) 0))

  unfoldable pub string_byte : (field o : ℕ) → Bool
  string_byte field o =
      leb (word F field) o
      && (ltb o (word F field + word F (field + 4)) && not (eqb (F o) 0 && (leb (word F field + 512) o && long_before o 512)))

  -- a byte of a table that the linker reads or writes whole
  unfoldable pub in_whole_table : ℕ → Bool
  in_whole_table o =
      in_table segments o
      || (in_table named_exports o
      || (in_table indexed_exports o
      || (in_table module_entries o || (in_table externals o || (in_table named_imports o || in_table internals o)))))

  -- a byte that the linker reads or writes
  unfoldable pub touched_byte : ℕ → Bool
  touched_byte o =
      ltb o header_size
      || (in_whole_table o
      || (import_byte indexed_imports indexed_run o
      || (import_byte anonymous_imports anonymous_run o
      || (string_byte module_name_offset o || (string_byte export_strings_offset o || string_byte import_strings_offset o)))))

  -- a word of the image meets none; in a packed image those before the first string area are segments' bytes
  unfoldable pub word_off : Room → WordPlace → Bool
  word_off room (InImage c) =
      leb (c + 4) (word F module_name_offset)
      || (ltb room.size c
      || not (touched_byte c || (touched_byte (c + 1) || (touched_byte (c + 2) || touched_byte (c + 3)))))
  word_off room (InData t) = true
  word_off room (InBss t) = true
  word_off room Nowhere = true

  -- every relocated word, and every two of them
  module _ (kinds : List ℕ) (room : Room) where
    abbrev pub word_of : ℕ → WordPlace
    word_of i = number_of_word F kinds room.last_data i

    unfoldable pub words_inside : Bool
    words_inside = all_below (word_count F) (λ i. word_inside room (word_of i))

    unfoldable pub words_apart : Bool
    words_apart = all_below (word_count F) (λ k. all_below k (λ i. places_apart (word_of i) (word_of k)))

    unfoldable pub far_words_apart : Bool
    far_words_apart = all_below (word_count F) (λ i. all_below (word_count F) (λ k. far_apart room (word_of i) (word_of k)))

    unfoldable pub words_off : Bool
    words_off = all_below (word_count F) (λ i. word_off room (word_of i))

    unfoldable pub words_good : Bool
    words_good = words_inside && (words_apart && (far_words_apart && words_off))
