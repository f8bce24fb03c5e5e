-- Imports: their batches and runs, who exports what they ask for, and what it is for an import to hold an address.
use Rattle.std.specs.Prelude.{ℕ, suc, ◌+◌, ◌*◌, ◌≤◌, ◌<◌, ◌≡◌, List, ◌≢◌, ◌⊎◌, true, Some}
use Rattle.window.specs.Mirror.{word}
use Rattle.layout.specs.Format.{relocation_type}
use Rattle.layout.specs.Relocation.Relocation.{relocated_word}
use Rattle.linker_spec.specs.Relocation.{batch_limit}
use Rattle.history.specs.Image.{Table, named_imports, indexed_imports, anonymous_imports, module_entries, externals, count, entry, name_of, module_name, tag, kind, end_mark, addend}
use Rattle.history.specs.LoadedModule.{Image, is_crs, address, export_of, indexed_of, anonymous_of}

-- an entry of one of the header's three tables of imports
pub data Import : Type 0 where
  named : ℕ → Import
  indexed : ℕ → Import
  anonymous : ℕ → Import

abbrev pub import_table : Import → Table
import_table (named i) = named_imports
import_table (indexed i) = indexed_imports
import_table (anonymous i) = anonymous_imports

abbrev pub import_number : Import → ℕ
import_number (named i) = i
import_number (indexed i) = i
import_number (anonymous i) = i

module _ (F : ℕ → ℕ) where
  abbrev pub IsImport : Import → Type 0
  IsImport i = import_number i < count F (import_table i)

  unfoldable pub import_entry : Import → ℕ
  import_entry i = entry F (import_table i) (import_number i)

  -- what it asks for: a name's pointer, an index or a tag
  unfoldable pub wanted : Import → ℕ
  wanted i = word F (import_entry i)

  unfoldable pub batch : Import → ℕ
  batch i = word F (import_entry i + 4)

  -- module entry j's run for an import of this kind, its pointer and its count; named imports are in no run
  unfoldable pub run_start : ℕ → Import → ℕ
  run_start j (named i) = 0
  run_start j (indexed i) = word F (entry F module_entries j + 4)
  run_start j (anonymous i) = word F (entry F module_entries j + 12)

  unfoldable pub run_count : ℕ → Import → ℕ
  run_count j (named i) = 0
  run_count j (indexed i) = word F (entry F module_entries j + 8)
  run_count j (anonymous i) = word F (entry F module_entries j + 16)

  -- the import lies in the run of module entry j
  unfoldable pub InRun : ℕ → Import → Type 0
  InRun j i = (k : ℕ) × (k < run_count j i) × (import_entry i ≡ run_start j i + k * (import_table i).width)

  -- "an indexed or anonymous one's is named by the module entry whose run it lies in, if any"
  unfoldable pub From : Import → List ℕ → Type 0
  From i name = (j : ℕ) × (j < count F module_entries) × InRun j i × (name ≡ name_of F (word F (entry F module_entries j)))

  -- external entries e to f: "from the table's first entry or one right after an end mark up to the next end mark"
  pub record Batch (e f : ℕ) : Type 0 where
    pub begins : (e ≡ 0) ⊎ ((d : ℕ) × (e ≡ suc d) × (end_mark F d ≢ 0))
    pub ordered : e ≤ f
    pub inside : f < count F externals
    pub goes_on : (j : ℕ) → e ≤ j → j < f → end_mark F j ≡ 0
    pub ends : end_mark F f ≢ 0

  -- "Each import has its own nonzero batch, a run of at most 4,097 entries of the external table"
  pub record BatchOf (i : Import) (e f : ℕ) : Type 0 where
    pub nonzero : batch i ≢ 0
    pub first : batch i ≡ entry F externals e
    pub run : Batch e f
    pub short : f < e + batch_limit

-- x has the export that import i of m asks for, at the address p
unfoldable pub Exports : Image → Image → Import → ℕ → Type 0
Exports x m (named i) p = export_of x (name_of m.file (wanted m.file (named i))) ≡ Some p
Exports x m (indexed i) p =
    From m.file (indexed i) (module_name x.file) × (indexed_of x (wanted m.file (indexed i)) ≡ Some p)
Exports x m (anonymous i) p =
    From m.file (anonymous i) (module_name x.file) × (anonymous_of x (wanted m.file (anonymous i)) ≡ Some p)

-- x is the exporter; the CRS never is of its own imports
unfoldable pub Exporter : Image → Image → Import → ℕ → Type 0
Exporter x m i p = Exports x m i p × (is_crs m.load_call ≡ true → is_crs x.load_call ≡ true → ⊥)

-- "An import holds an address if each batch entry of kind 2, 3 or 10 with a usable tag has the word that this address as symbol gives."
unfoldable pub Holds : (ℕ → ℕ) → Image → Import → ℕ → Type 0
Holds M m i symbol =
    (e f j : ℕ) → BatchOf m.file i e f → e ≤ j → j ≤ f → (p v : ℕ) → address m (tag m.file externals j) ≡ Some p
    → relocated_word (relocation_type (kind m.file externals j)) (addend m.file externals j) symbol p ≡ Some v
    → word M p ≡ v
