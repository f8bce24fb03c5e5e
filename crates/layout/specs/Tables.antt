-- The two constant tables of cro/mod.rs: the entry sizes of the header's tables, and the tables whose entries hold pointers.
use Rattle.std.specs.Prelude.{ℕ, List, [], ◌∷◌}
use Rattle.layout.specs.Header.{export_named_symbol_table_offset, export_named_symbol_num, import_module_table_offset, import_module_num, import_named_symbol_table_offset, import_named_symbol_num, import_indexed_symbol_table_offset, import_indexed_symbol_num, import_anonymous_symbol_table_offset, import_anonymous_symbol_num, segment_entry_size, export_named_symbol_entry_size, export_indexed_symbol_entry_size, export_tree_entry_size, import_module_entry_size, import_named_symbol_entry_size, import_indexed_symbol_entry_size, import_anonymous_symbol_entry_size, static_anonymous_symbol_entry_size, relocation_entry_size}
use Rattle.layout.specs.declared.tables.PointerTable.{PointerTable}

-- "Header and entry sizes are that file's constants": for each table that the header lists from the module name on, 1 for those counted in bytes
unfoldable pub table_entry_sizes : List ℕ
table_entry_sizes =
    1
    ∷ segment_entry_size
    ∷ export_named_symbol_entry_size
    ∷ export_indexed_symbol_entry_size
    ∷ 1
    ∷ export_tree_entry_size
    ∷ import_module_entry_size
    ∷ relocation_entry_size
    ∷ import_named_symbol_entry_size
    ∷ import_indexed_symbol_entry_size
    ∷ import_anonymous_symbol_entry_size
    ∷ 1
    ∷ static_anonymous_symbol_entry_size
    ∷ relocation_entry_size
    ∷ relocation_entry_size
    ∷ []

-- a table whose entries hold pointers: its field, count field, entry size, number of pointers, and where in an entry they are
abbrev pub pointer_table : (table count entrySize pointers first second third : ℕ) → PointerTable
pointer_table table count entrySize pointers first second third =
    record { table = table; count = count; entry_size = entrySize; pointers = pointers; first = first; second = second; third = third }

-- its words, in this order
abbrev pub pointer_words : PointerTable → List ℕ
pointer_words t =
    t.table ∷ t.count ∷ t.entry_size ∷ t.pointers ∷ t.first ∷ t.second ∷ t.third ∷ []

abbrev pub no_table : PointerTable
no_table = pointer_table 0 0 0 0 0 0 0

-- "`POINTER_TABLES` tuples: a flat constant table."
unfoldable pub pointer_tables : List PointerTable
pointer_tables =
    pointer_table export_named_symbol_table_offset export_named_symbol_num export_named_symbol_entry_size 1 0 0 0
    ∷ pointer_table import_module_table_offset import_module_num import_module_entry_size 3 0 4 12
    ∷ pointer_table import_named_symbol_table_offset import_named_symbol_num import_named_symbol_entry_size 2 0 4 0
    ∷ pointer_table import_indexed_symbol_table_offset import_indexed_symbol_num import_indexed_symbol_entry_size 1 4 0 0
    ∷ pointer_table import_anonymous_symbol_table_offset import_anonymous_symbol_num import_anonymous_symbol_entry_size 1 4 0 0
    ∷ []
