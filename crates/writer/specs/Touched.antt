-- What helpers of the code answer that look for words among what the linker reads or writes.
use Rattle.std.specs.Prelude.{ℕ, ◌+◌, Bool, ◌||◌}
use Rattle.layout.specs.Header.{module_name_offset, export_strings_offset, import_strings_offset}
use Rattle.history.specs.Image.{module_entries, externals, named_imports, indexed_imports, anonymous_imports, internals}
use Rattle.writer_spec.specs.Runs.{indexed_run, anonymous_run}
use Rattle.writer_spec.specs.Words.{in_table, import_byte, string_byte, touched_byte}

module _ (F : ℕ → ℕ) (o : ℕ) where
  -- a byte of a table of imports or relocations that is read or written whole
  abbrev pub in_import_tables : Bool
  in_import_tables = in_table F module_entries o || (in_table F externals o || (in_table F named_imports o || in_table F internals o))

  -- a byte of a string that is read
  abbrev pub in_strings : Bool
  in_strings = string_byte F module_name_offset o || (string_byte F export_strings_offset o || string_byte F import_strings_offset o)

  -- a byte that is read of what is not read whole
  abbrev pub read_in_part : Bool
  read_in_part = import_byte F indexed_imports indexed_run o || (import_byte F anonymous_imports anonymous_run o || in_strings)

-- one of the four bytes from c on is read or written
abbrev pub word_touched : (ℕ → ℕ) → ℕ → Bool
word_touched F c = touched_byte F c || (touched_byte F (c + 1) || (touched_byte F (c + 2) || touched_byte F (c + 3)))
