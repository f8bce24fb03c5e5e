-- "A well-laid image": first what depends on the image alone, then what depends on its place.
use Rattle.std.specs.Prelude.{ℕ, ◌+◌, ◌*◌, ◌≤◌, ◌<◌, ◌≡◌, ◌≢◌, ◌⊎◌, length, get_or, Some}
use Rattle.window.specs.Within.{In}
use Rattle.window.specs.Mirror.{word}
use Rattle.layout.specs.Header.{header_size, next_cro, previous_cro, module_name_offset}
use Rattle.layout.specs.Format.{relocation_type, tag_segment, tag_offset}
use Rattle.layout.specs.Relocation.Relocation.{relocated_word}
use Rattle.linker_spec.specs.Relocation.{write_place}
use Rattle.history.specs.Image.{Table, tables, segments, named_exports, export_tree, module_entries, externals, named_imports, static_anonymous, internals, static_relocations, start, count, entry, file_segment, tag, kind, symbol_segment}
use Rattle.history.specs.LoadedModule.{LoadCall, initialized, loaded, Image, base_of, size_of, old_place, address, handler, Area}
use Rattle.history.specs.Imports.{Import, named, indexed, anonymous, import_table, IsImport, import_entry, batch, run_start, run_count, InRun, BatchOf}

-- what must lie in the image apart from each other: the header, table number n, the string that a pointer gives
pub data Part : Type 0 where
  header : Part
  table : ℕ → Part
  string : ℕ → Part

abbrev no_table : Table
no_table = record { field = 0; width = 0 }

abbrev pub table_number : ℕ → Table
table_number n = get_or tables n no_table

module _ (F : ℕ → ℕ) where
  -- the pointers of names: the module's, and those in named exports, named imports and module entries
  pub data Pointer : ℕ → Type 0 where
    of_module : Pointer (word F module_name_offset)
    of_export : (i : ℕ) → i < count F named_exports → Pointer (word F (entry F named_exports i))
    of_import : (i : ℕ) → i < count F named_imports → Pointer (word F (entry F named_imports i))
    of_entry : (i : ℕ) → i < count F module_entries → Pointer (word F (entry F module_entries i))

  -- "each string with the zero that ends it": from p to the first zero
  abbrev pub InString : ℕ → ℕ → Type 0
  InString p o = (p ≤ o) × ((z : ℕ) → p ≤ z → z < o → F z ≢ 0)

  -- the offsets of a part; a pointer of 0 is no string
  unfoldable pub InPart : Part → ℕ → Type 0
  InPart header o = o < header_size
  InPart (table n) o = (n < length tables) × In (start F (table_number n)) (count F (table_number n) * (table_number n).width) o
  InPart (string p) o = Pointer p × (p ≢ 0) × InString p o

  -- what an import asks for, its first word, is read if it is named or the run of a module entry has it
  unfoldable pub Asked : Import → Type 0
  Asked (named i) = Unit {0}
  Asked (indexed i) = (j : ℕ) × (j < count F module_entries) × InRun F j (indexed i)
  Asked (anonymous i) = (j : ℕ) × (j < count F module_entries) × InRun F j (anonymous i)

  -- what of a part the linker reads or writes: nothing of the export tree and the two static tables, what an import asks for only if it is
  -- `Asked`, and of a string at most 512 bytes
  unfoldable pub Touched : Part → ℕ → Type 0
  Touched header o = Unit {0}
  Touched (table n) o =
      (table_number n ≢ export_tree) × (table_number n ≢ static_anonymous) × (table_number n ≢ static_relocations)
      × ((i : Import) → IsImport F i → table_number n ≡ import_table i → In (import_entry F i) 4 o → Asked i)
  Touched (string p) o = o < p + 512

  pub record LaidAlone (size : ℕ) : Type 0 where
    -- "header .. lie in the image"
    pub header-inside : header_size ≤ size
    -- "tables .. lie in the image"; an empty one has no bytes, and its offset is free
    pub tables-inside
        : (n : ℕ) → n < length tables → (count F (table_number n) ≡ 0)
        ⊎ ((start F (table_number n) ≢ 0) × (entry F (table_number n) (count F (table_number n)) ≤ size))
    -- "strings, each string with the zero that ends it, lie in the image"
    pub strings_inside : (p : ℕ) → Pointer p → p ≢ 0 → (z : ℕ) × (p ≤ z) × (z < size) × (F z ≡ 0)
    -- "and do not overlap"; two entries with one pointer have one string
    pub parts-apart : (r s : Part) → r ≢ s → (o : ℕ) → InPart r o → InPart s o → ⊥
    -- "A module entry's two tables are runs of the header's"; an empty run's pointer is free
    pub runs
        : (j : ℕ) → j < count F module_entries → (i : Import) → (run_count F j i ≡ 0)
        ⊎ ((k : ℕ) × (run_start F j i ≡ entry F (import_table i) k) × (k + run_count F j i ≤ count F (import_table i)))
    -- "no import lies in the runs of two entries"
    pub one-run
        : (i : Import) → IsImport F i → (j k : ℕ) → j < count F module_entries → k < count F module_entries → InRun F j i → InRun F k i → j ≡ k
    -- "Each import has its own nonzero batch"
    pub batches : (i : Import) → IsImport F i → (e : ℕ) × (f : ℕ) × BatchOf F i e f
    -- "sharing none"
    pub own-batch : (i k : Import) → IsImport F i → IsImport F k → batch F i ≡ batch F k → i ≡ k

-- a relocation that is really written: of the external table, or of the internal one
pub data Relocated : Type 0 where
  external : ℕ → Relocated
  internal : ℕ → Relocated

module _ (a : Image) where
  -- kinds 2, 3 and 10 write a word, whatever the addend, symbol and place
  abbrev pub Writes : ℕ → Type 0
  Writes k = (v : ℕ) × (relocated_word (relocation_type k) 0 0 0 ≡ Some v)

  -- where a relocated word stands: "every relocated word"; an internal one into Data "at the old place"
  unfoldable pub WordAt : Relocated → ℕ → Type 0
  WordAt (external i) p =
      (i < count a.file externals) × Writes (kind a.file externals i) × (address a (tag a.file externals i) ≡ Some p)
  WordAt (internal i) p =
      (i < count a.file internals) × Writes (kind a.file internals i) × (symbol_segment a.file i < count a.file segments)
      × (q : ℕ) × (address a (tag a.file internals i) ≡ Some q)
      × (p
      ≡ write_place (file_segment a.file (tag_segment (tag a.file internals i))).kind (old_place a) (tag_offset (tag a.file internals i)) q)

  -- a CRS's list words
  unfoldable pub NoList : LoadCall → Type 0
  NoList (initialized base size) = (word a.file next_cro ≡ 0) × (word a.file previous_cro ≡ 0)
  NoList (loaded l auto level) = Unit {0}

  pub record LaidInPlace : Type 0 where
    -- "every relocated word lie in its own areas"
    pub words_inside_lem : (r : Relocated) (p : ℕ) → WordAt r p → (q : ℕ) → In p 4 q → Area a q
    -- "No relocated word overlaps another"
    pub words-apart : (r s : Relocated) → r ≢ s → (p q : ℕ) → WordAt r p → WordAt s q → (x : ℕ) → In p 4 x → In q 4 x → ⊥
    -- "or anything else the linker reads or writes, the whole header included"
    pub words-off
        : (r : Relocated) (p : ℕ) → WordAt r p → (s : Part) (o : ℕ) → InPart a.file s o → Touched a.file s o
        → In p 4 (base_of a.load_call + o) → ⊥
    -- "Its handler address is not 0."
    pub handler-there : handler a ≢ 0
    -- "For a CRS the same, and its words at 0x088 and 0x08C are 0 before `initialize`"
    pub no_list : NoList a.load_call

  pub record WellLaid : Type 0 where
    pub alone : LaidAlone a.file (size_of a.load_call)
    pub in_place_lem : LaidInPlace
