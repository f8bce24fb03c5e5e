-- The tables of an importer, as an unload resets them.
use Rattle.std.specs.Prelude.{ℕ}
use Rattle.window.specs.Access.{Prog, ◌>>=◌}
use Rattle.window.specs.Loop.{loop}
use Rattle.layout.specs.Header.{import_named_symbol_table_offset, import_named_symbol_num, import_named_symbol_entry_size, import_module_table_offset, import_module_num, import_module_entry_size, import_indexed_symbol_entry_size}
use Rattle.layout.specs.Segments.{field, entry_at}
use Rattle.register.specs.Module.{Module}
use Rattle.linker_spec.specs.Resets.{reset_at, reset_named, reset_module}

unfoldable pub reset_table : (base handler table count : ℕ) → Prog (Unit {0})
reset_table base handler table count = loop (λ i _. reset_at base handler (entry_at table i import_indexed_symbol_entry_size)) 0 count tt

unfoldable pub reset_all_named : Module → ℕ → ℕ → Prog (Unit {0})
reset_all_named gone base handler = do
  table ← field base import_named_symbol_table_offset
  count ← field base import_named_symbol_num
  loop (λ i _. reset_named gone base handler (entry_at table i import_named_symbol_entry_size)) 0 count tt

unfoldable pub reset_all_modules : Module → ℕ → ℕ → Prog (Unit {0})
reset_all_modules gone base handler = do
  table ← field base import_module_table_offset
  count ← field base import_module_num
  loop (λ i _. reset_module gone base handler (entry_at table i import_module_entry_size)) 0 count tt
