-- Document 02, Ask 1: "from a description with a header of counts, offsets and tags .. it makes a CRO image". A description has the form of an
-- image: a header of 0x138 bytes, then its parts. F gives its byte at each offset.
use Rattle.std.specs.Prelude.{if◌then◌else◌, ℕ, zero, suc, ◌+◌, ◌-◌, ◌*◌, ◌/◌, List, [], ◌∷◌, ◌++◌, Option, Some, None, option_and_then, Bool, true, false, ◌&&◌, length, get_or, eqb, ltb}
use Rattle.window.specs.Mirror.{word, put4}
use Rattle.layout.specs.Header.{magic, name_offset, next_cro, file_size, bss_size, fixed_size, module_name_offset, module_name_size, export_strings_offset, export_strings_size, export_tree_num, import_strings_offset, import_strings_size, static_anonymous_symbol_num, static_relocation_table_offset, static_relocation_num, header_size}
use Rattle.layout.specs.Tables.{table_entry_sizes}
use Rattle.layout.specs.declared.format.SegmentType.{SegmentType}
use Rattle.layout.specs.declared.format.SegmentType.TheVariants.{Code, RoData, Data, Bss}
use Rattle.history.specs.Image.{Table, segments, named_exports, module_entries, named_imports, count, entry, file_segment}
use Rattle.writer_spec.specs.All.{all_below}

-- bytes by their offset, 0 past the end
unfoldable pub file_of : List ℕ → ℕ → ℕ
file_of d o = get_or d o 0

-- a table by the place of its offset in the header and the size of an entry
abbrev pub table_at : (field width : ℕ) → Table
table_at field width = record { field = field; width = width }

-- "the next multiple of 4", "the next multiple of 4,096"
abbrev pub up4 : ℕ → ℕ
up4 x = (x + 3) / 4 * 4

abbrev pub up_page : ℕ → ℕ
up_page x = (x + 4095) / 4096 * 4096

-- a segment, table or string area: where it starts, and how many bytes it has
pub record Block : Type 0 where
  pub offset : ℕ
  pub size : ℕ

abbrev block : ℕ → ℕ → Block
block o n = record { offset = o; size = n }

-- "the segments but Bss"
abbrev pub in_file : SegmentType → Bool
in_file Code = true
in_file RoData = true
in_file Data = true
in_file Bss = false

-- all was in order, so that there is a position after it, and the last ends there
abbrev pub ends_at : Option ℕ → ℕ → Bool
ends_at (Some pos) end = eqb pos end
ends_at None end = false

-- "a name above 512 bytes" is none: with its zero it has at most 513
abbrev pub name_room : ℕ
name_room = 513

module _ (F : ℕ → ℕ) where
  -- the n bytes from o on are 0
  unfoldable pub zeros : (o n : ℕ) → Bool
  zeros o n = all_below n (λ i. eqb (F (o + i)) 0)

  -- "header bytes not described" are 0: all but the name's offset, the Bss size, and those from the tags on
  unfoldable pub header_zeros : Bool
  header_zeros =
      zeros 0 name_offset && (zeros next_cro (bss_size - next_cro) && zeros fixed_size 8)

  -- n segments from i on, in table order
  unfoldable pub segment_blocks : (n i : ℕ) → List Block
  segment_blocks zero i = []
  segment_blocks (suc n) i =
      if in_file (file_segment F i).kind then block (file_segment F i).offset (file_segment F i).size ∷ segment_blocks n (suc i)
      else segment_blocks n (suc i)

  -- "tables and string areas in header order": n of the header's 15 pairs of offset and count, from number k on
  unfoldable pub pair_block : ℕ → Block
  pair_block k =
      block (word F (module_name_offset + 8 * k)) (word F (module_name_offset + (8 * k + 4)) * get_or table_entry_sizes k 0)

  unfoldable pub pair_blocks : (n k : ℕ) → List Block
  pair_blocks zero k = []
  pair_blocks (suc n) k = pair_block k ∷ pair_blocks n (suc k)

  -- "start each at the next multiple of 4", "Pad bytes are 0": from position pos on, up to the end of the last
  unfoldable pub block_after : (pos offset size : ℕ) → Option ℕ
  block_after pos offset size = if eqb offset (up4 pos) && zeros pos (up4 pos - pos) then Some (offset + size) else None

  unfoldable pub packed_from : ℕ → List Block → Option ℕ
  packed_from pos [] = Some pos
  packed_from pos (b ∷ bs) = option_and_then (λ next. packed_from next bs) (block_after pos b.offset b.size)

  -- "other tables empty": the export tree, static anonymous symbols and static relocations
  unfoldable pub others_empty : Bool
  others_empty =
      eqb (word F export_tree_num) 0 && (eqb (word F static_anonymous_symbol_num) 0 && eqb (word F static_relocation_num) 0)

  unfoldable pub packed_to : ℕ → Bool
  packed_to end =
      header_zeros
      && (others_empty && ends_at (packed_from header_size (segment_blocks (count F segments) 0 ++ pair_blocks 15 0)) end)

  -- how many bytes from p on are not 0, up to the first that is, and at most n
  unfoldable pub nonzeros : (n p : ℕ) → ℕ
  nonzeros zero p = 0
  nonzeros (suc n) p = if eqb (F p) 0 then 0 else suc (nonzeros n (suc p))

  -- "strings without gap in their entries' order": from position pos on, the strings of these pointers
  unfoldable pub string_after : (pos p : ℕ) → Option ℕ
  string_after pos p =
      if eqb p pos && ltb (nonzeros name_room p) name_room then Some (pos + (nonzeros name_room p + 1)) else None

  unfoldable pub strings_from : ℕ → List ℕ → Option ℕ
  strings_from pos [] = Some pos
  strings_from pos (p ∷ ps) = option_and_then (λ next. strings_from next ps) (string_after pos p)

  -- the first words of n entries of a table, from entry i on
  unfoldable pub pointers : Table → (n i : ℕ) → List ℕ
  pointers t zero i = []
  pointers t (suc n) i = word F (entry F t i) ∷ pointers t n (suc i)

  abbrev pub pointers_of : Table → List ℕ
  pointers_of t = pointers t (count F t) 0

  -- the module's name; those of named exports; those of module entries, then those of named imports
  unfoldable pub names_packed : Bool
  names_packed =
      ends_at (string_after (word F module_name_offset) (word F module_name_offset)) (word F module_name_offset + word F module_name_size)
      && (ends_at (strings_from (word F export_strings_offset) (pointers_of named_exports)) (word F export_strings_offset + word F export_strings_size)
      && ends_at (strings_from (word F import_strings_offset) (pointers_of module_entries ++ pointers_of named_imports))
      (word F import_strings_offset + word F import_strings_size))

unfoldable pub packed : List ℕ → Bool
packed d = packed_to (file_of d) (length d)

unfoldable pub named : List ℕ → Bool
named d = names_packed (file_of d)

-- "the length is the next multiple of 4,096"
abbrev pub image_size : List ℕ → ℕ
image_size d = up_page (length d)

-- "CRO0"
abbrev pub cro0 : ℕ
cro0 = 0x304f5243

-- the image's byte at an offset: the description's, "but the magic and the length at 0x090", and 0 past its end
unfoldable pub image_file : List ℕ → ℕ → ℕ
image_file d = put4 (put4 (file_of d) magic cro0) file_size (image_size d)

-- the first n bytes, as a list
unfoldable pub first_bytes : ℕ → (ℕ → ℕ) → List ℕ
first_bytes zero F = []
first_bytes (suc n) F = F 0 ∷ first_bytes n (λ o. F (suc o))

unfoldable pub image_of : List ℕ → List ℕ
image_of d = first_bytes (image_size d) (image_file d)

-- "Reading the image back gives the description again": its length is where the last table, which is empty, starts
unfoldable pub described_size : List ℕ → ℕ
described_size i = word (file_of i) static_relocation_table_offset

unfoldable pub read_back : List ℕ → List ℕ
read_back i = first_bytes (described_size i) (put4 (put4 (file_of i) magic 0) file_size 0)
