-- Document 01: "Header and entry sizes are that file's constants" (cro/format.rs).
use Rattle.std.specs.Prelude.{ℕ}

abbrev pub magic : ℕ
magic = 0x080

abbrev pub name_offset : ℕ
name_offset = 0x084

abbrev pub next_cro : ℕ
next_cro = 0x088

abbrev pub previous_cro : ℕ
previous_cro = 0x08c

abbrev pub file_size : ℕ
file_size = 0x090

abbrev pub bss_size : ℕ
bss_size = 0x094

abbrev pub fixed_size : ℕ
fixed_size = 0x098

abbrev pub on_unresolved_segment_tag : ℕ
on_unresolved_segment_tag = 0x0ac

abbrev pub first_rebased : ℕ
first_rebased = 0x0b0

abbrev pub code_offset : ℕ
code_offset = 0x0b0

abbrev pub code_size : ℕ
code_size = 0x0b4

abbrev pub data_offset : ℕ
data_offset = 0x0b8

abbrev pub data_size : ℕ
data_size = 0x0bc

abbrev pub module_name_offset : ℕ
module_name_offset = 0x0c0

abbrev pub module_name_size : ℕ
module_name_size = 0x0c4

abbrev pub segment_table_offset : ℕ
segment_table_offset = 0x0c8

abbrev pub segment_num : ℕ
segment_num = 0x0cc

abbrev pub export_named_symbol_table_offset : ℕ
export_named_symbol_table_offset = 0x0d0

abbrev pub export_named_symbol_num : ℕ
export_named_symbol_num = 0x0d4

abbrev pub export_indexed_symbol_table_offset : ℕ
export_indexed_symbol_table_offset = 0x0d8

abbrev pub export_indexed_symbol_num : ℕ
export_indexed_symbol_num = 0x0dc

abbrev pub export_strings_offset : ℕ
export_strings_offset = 0x0e0

abbrev pub export_strings_size : ℕ
export_strings_size = 0x0e4

abbrev pub export_tree_table_offset : ℕ
export_tree_table_offset = 0x0e8

abbrev pub export_tree_num : ℕ
export_tree_num = 0x0ec

abbrev pub import_module_table_offset : ℕ
import_module_table_offset = 0x0f0

abbrev pub import_module_num : ℕ
import_module_num = 0x0f4

abbrev pub external_relocation_table_offset : ℕ
external_relocation_table_offset = 0x0f8

abbrev pub external_relocation_num : ℕ
external_relocation_num = 0x0fc

abbrev pub import_named_symbol_table_offset : ℕ
import_named_symbol_table_offset = 0x100

abbrev pub import_named_symbol_num : ℕ
import_named_symbol_num = 0x104

abbrev pub import_indexed_symbol_table_offset : ℕ
import_indexed_symbol_table_offset = 0x108

abbrev pub import_indexed_symbol_num : ℕ
import_indexed_symbol_num = 0x10c

abbrev pub import_anonymous_symbol_table_offset : ℕ
import_anonymous_symbol_table_offset = 0x110

abbrev pub import_anonymous_symbol_num : ℕ
import_anonymous_symbol_num = 0x114

abbrev pub import_strings_offset : ℕ
import_strings_offset = 0x118

abbrev pub import_strings_size : ℕ
import_strings_size = 0x11c

abbrev pub static_anonymous_symbol_table_offset : ℕ
static_anonymous_symbol_table_offset = 0x120

abbrev pub static_anonymous_symbol_num : ℕ
static_anonymous_symbol_num = 0x124

abbrev pub internal_relocation_table_offset : ℕ
internal_relocation_table_offset = 0x128

abbrev pub internal_relocation_num : ℕ
internal_relocation_num = 0x12c

abbrev pub static_relocation_table_offset : ℕ
static_relocation_table_offset = 0x130

abbrev pub static_relocation_num : ℕ
static_relocation_num = 0x134

abbrev pub header_size : ℕ
header_size = 0x138

-- the size of an entry of each table, in bytes

abbrev pub segment_entry_size : ℕ
segment_entry_size = 0xc

abbrev pub export_named_symbol_entry_size : ℕ
export_named_symbol_entry_size = 8

abbrev pub export_indexed_symbol_entry_size : ℕ
export_indexed_symbol_entry_size = 4

abbrev pub export_tree_entry_size : ℕ
export_tree_entry_size = 8

abbrev pub import_module_entry_size : ℕ
import_module_entry_size = 0x14

abbrev pub import_named_symbol_entry_size : ℕ
import_named_symbol_entry_size = 8

abbrev pub import_indexed_symbol_entry_size : ℕ
import_indexed_symbol_entry_size = 8

abbrev pub import_anonymous_symbol_entry_size : ℕ
import_anonymous_symbol_entry_size = 8

abbrev pub static_anonymous_symbol_entry_size : ℕ
static_anonymous_symbol_entry_size = 8

abbrev pub relocation_entry_size : ℕ
relocation_entry_size = 0xc
