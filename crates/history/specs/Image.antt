-- An image by itself: F gives its byte at each offset from the base, as the bytes were when it was loaded.
use Rattle.std.specs.Prelude.{ℕ, ◌+◌, ◌*◌, List, [], ◌∷◌}
use Rattle.window.specs.Mirror.{word, run_m}
use Rattle.window.specs.Name.{name_at}
use Rattle.layout.specs.Header.{segment_table_offset, export_named_symbol_table_offset, export_indexed_symbol_table_offset, export_tree_table_offset, import_module_table_offset, external_relocation_table_offset, import_named_symbol_table_offset, import_indexed_symbol_table_offset, import_anonymous_symbol_table_offset, static_anonymous_symbol_table_offset, internal_relocation_table_offset, static_relocation_table_offset, module_name_offset, segment_entry_size, export_named_symbol_entry_size, export_indexed_symbol_entry_size, export_tree_entry_size, import_module_entry_size, import_named_symbol_entry_size, import_indexed_symbol_entry_size, import_anonymous_symbol_entry_size, static_anonymous_symbol_entry_size, relocation_entry_size}
use Rattle.layout.specs.Format.{segment_type}
use Rattle.layout.specs.declared.format.Segment.{Segment}

-- a table that the header lists: where its offset stands, the count being the next word, and the size of an entry
pub record Table : Type 0 where
  pub field : ℕ
  pub width : ℕ

abbrev table : ℕ → ℕ → Table
table f s = record { field = f; width = s }

abbrev pub segments : Table
segments = table segment_table_offset segment_entry_size

abbrev pub named_exports : Table
named_exports = table export_named_symbol_table_offset export_named_symbol_entry_size

abbrev pub indexed_exports : Table
indexed_exports = table export_indexed_symbol_table_offset export_indexed_symbol_entry_size

abbrev pub export_tree : Table
export_tree = table export_tree_table_offset export_tree_entry_size

abbrev pub module_entries : Table
module_entries = table import_module_table_offset import_module_entry_size

abbrev pub externals : Table
externals = table external_relocation_table_offset relocation_entry_size

abbrev pub named_imports : Table
named_imports = table import_named_symbol_table_offset import_named_symbol_entry_size

abbrev pub indexed_imports : Table
indexed_imports = table import_indexed_symbol_table_offset import_indexed_symbol_entry_size

abbrev pub anonymous_imports : Table
anonymous_imports = table import_anonymous_symbol_table_offset import_anonymous_symbol_entry_size

abbrev pub static_anonymous : Table
static_anonymous = table static_anonymous_symbol_table_offset static_anonymous_symbol_entry_size

abbrev pub internals : Table
internals = table internal_relocation_table_offset relocation_entry_size

abbrev pub static_relocations : Table
static_relocations = table static_relocation_table_offset relocation_entry_size

-- "Its tables": all that have entries; the three areas of strings are counted in bytes and are none
unfoldable pub tables : List Table
tables =
    segments
    ∷ named_exports
    ∷ indexed_exports
    ∷ export_tree
    ∷ module_entries
    ∷ externals
    ∷ named_imports
    ∷ indexed_imports
    ∷ anonymous_imports
    ∷ static_anonymous
    ∷ internals
    ∷ static_relocations
    ∷ []

module _ (F : ℕ → ℕ) where
  -- a table's offset in the file, its count, and the offset of entry i
  unfoldable pub start : Table → ℕ
  start t = word F t.field

  unfoldable pub count : Table → ℕ
  count t = word F (t.field + 4)

  unfoldable pub entry : Table → ℕ → ℕ
  entry t i = start t + i * t.width

  -- "A name is the bytes before a zero, at most 512"; a pointer of 0 gives the empty name
  unfoldable pub name_of : ℕ → List ℕ
  name_of p = (run_m (name_at p) F).0

  unfoldable pub module_name : List ℕ
  module_name = name_of (word F module_name_offset)

  -- segment i as the file has it
  unfoldable pub file_segment : ℕ → Segment
  file_segment i =
      record {
        offset = word F (entry segments i);
        size = word F (entry segments i + 4);
        kind = segment_type (word F (entry segments i + 8));
      }

  -- an entry of a relocation table: tag, kind, then an end mark (external) or the symbol segment (internal), and the addend
  unfoldable pub tag : Table → ℕ → ℕ
  tag t i = word F (entry t i)

  unfoldable pub kind : Table → ℕ → ℕ
  kind t i = F (entry t i + 4)

  unfoldable pub end_mark : ℕ → ℕ
  end_mark i = F (entry externals i + 5)

  unfoldable pub symbol_segment : ℕ → ℕ
  symbol_segment i = F (entry internals i + 5)

  unfoldable pub addend : Table → ℕ → ℕ
  addend t i = word F (entry t i + 8)
