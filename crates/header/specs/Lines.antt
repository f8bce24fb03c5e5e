-- The lines of a header: the fields of cro/format.rs by their names there, in lower case, and their offsets.
use Rattle.std.specs.Prelude.{if◌then◌else◌, ℕ, zero, suc, ◌+◌, ◌*◌, Bool, ◌&&◌, ◌||◌, List, [], ◌∷◌, get_or, eqb, leb}
use Prim.Native.Char.{code}
use Prim.Native.String.{String, [] as ε, ◌∷◌ as ◌◃◌}
use Rattle.layout.specs.Header.{header_size, magic, name_offset, next_cro, previous_cro, file_size, bss_size, fixed_size}
use Rattle.layout.specs.Header.{on_unresolved_segment_tag, code_offset, code_size, data_offset, data_size, module_name_offset}
use Rattle.layout.specs.Header.{module_name_size, segment_table_offset, segment_num, export_named_symbol_table_offset}
use Rattle.layout.specs.Header.{export_named_symbol_num, export_indexed_symbol_table_offset, export_indexed_symbol_num}
use Rattle.layout.specs.Header.{export_strings_offset, export_strings_size, export_tree_table_offset, export_tree_num}
use Rattle.layout.specs.Header.{import_module_table_offset, import_module_num, external_relocation_table_offset}
use Rattle.layout.specs.Header.{external_relocation_num, import_named_symbol_table_offset, import_named_symbol_num}
use Rattle.layout.specs.Header.{import_indexed_symbol_table_offset, import_indexed_symbol_num, import_anonymous_symbol_table_offset}
use Rattle.layout.specs.Header.{import_anonymous_symbol_num, import_strings_offset, import_strings_size}
use Rattle.layout.specs.Header.{static_anonymous_symbol_table_offset, static_anonymous_symbol_num, internal_relocation_table_offset}
use Rattle.layout.specs.Header.{internal_relocation_num, static_relocation_table_offset, static_relocation_num}

-- the word of a text's bytes, lowest first
abbrev pub word_of : String → ℕ
word_of ε = 0
word_of (c ◃ s) = code c + 256 * word_of s

-- n bytes and the word where the magic stands are those of a module
unfoldable pub is_module : ℕ → ℕ → Bool
is_module n word = leb header_size n && (eqb word (word_of "CRO0") || eqb word (word_of "CRS0"))

-- each field's name and offset
unfoldable pub header_lines : List (String × ℕ)
header_lines =
    ("magic", magic)
    ∷ ("name_offset", name_offset)
    ∷ ("next_cro", next_cro)
    ∷ ("previous_cro", previous_cro)
    ∷ ("file_size", file_size)
    ∷ ("bss_size", bss_size)
    ∷ ("fixed_size", fixed_size)
    ∷ ("on_unresolved_segment_tag", on_unresolved_segment_tag)
    ∷ ("code_offset", code_offset)
    ∷ ("code_size", code_size)
    ∷ ("data_offset", data_offset)
    ∷ ("data_size", data_size)
    ∷ ("module_name_offset", module_name_offset)
    ∷ ("module_name_size", module_name_size)
    ∷ ("segment_table_offset", segment_table_offset)
    ∷ ("segment_num", segment_num)
    ∷ ("export_named_symbol_table_offset", export_named_symbol_table_offset)
    ∷ ("export_named_symbol_num", export_named_symbol_num)
    ∷ ("export_indexed_symbol_table_offset", export_indexed_symbol_table_offset)
    ∷ ("export_indexed_symbol_num", export_indexed_symbol_num)
    ∷ ("export_strings_offset", export_strings_offset)
    ∷ ("export_strings_size", export_strings_size)
    ∷ ("export_tree_table_offset", export_tree_table_offset)
    ∷ ("export_tree_num", export_tree_num)
    ∷ ("import_module_table_offset", import_module_table_offset)
    ∷ ("import_module_num", import_module_num)
    ∷ ("external_relocation_table_offset", external_relocation_table_offset)
    ∷ ("external_relocation_num", external_relocation_num)
    ∷ ("import_named_symbol_table_offset", import_named_symbol_table_offset)
    ∷ ("import_named_symbol_num", import_named_symbol_num)
    ∷ ("import_indexed_symbol_table_offset", import_indexed_symbol_table_offset)
    ∷ ("import_indexed_symbol_num", import_indexed_symbol_num)
    ∷ ("import_anonymous_symbol_table_offset", import_anonymous_symbol_table_offset)
    ∷ ("import_anonymous_symbol_num", import_anonymous_symbol_num)
    ∷ ("import_strings_offset", import_strings_offset)
    ∷ ("import_strings_size", import_strings_size)
    ∷ ("static_anonymous_symbol_table_offset", static_anonymous_symbol_table_offset)
    ∷ ("static_anonymous_symbol_num", static_anonymous_symbol_num)
    ∷ ("internal_relocation_table_offset", internal_relocation_table_offset)
    ∷ ("internal_relocation_num", internal_relocation_num)
    ∷ ("static_relocation_table_offset", static_relocation_table_offset)
    ∷ ("static_relocation_num", static_relocation_num)
    ∷ []

-- the name and the offset of the field that line k shows
unfoldable pub line_at : ℕ → String × ℕ
line_at k = get_or header_lines k ("", 0)

-- how many bytes the first k words of a text take, each with the space that ends it
unfoldable pub words_length : ℕ → List ℕ → ℕ
words_length zero l = 0
words_length (suc k) [] = 0
words_length (suc k) (b ∷ l) = suc (if eqb b 32 then words_length k l else words_length (suc k) l)
