-- The two halves of what a new module serves to another.
use Rattle.std.specs.Prelude.{ℕ}
use Rattle.window.specs.Access.{Prog, ◌>>=◌}
use Rattle.window.specs.Loop.{loop}
use Rattle.layout.specs.Header.{import_named_symbol_table_offset, import_named_symbol_num, import_named_symbol_entry_size, import_module_table_offset, import_module_num, import_module_entry_size}
use Rattle.layout.specs.Segments.{field, entry_at}
use Rattle.register.specs.Module.{Module}
use Rattle.linker_spec.specs.Imports.{serve_named, serve_module}

unfoldable pub serve_all_named : Module → ℕ → Prog (Unit {0})
serve_all_named new base = do
  table ← field base import_named_symbol_table_offset
  count ← field base import_named_symbol_num
  loop (λ i _. serve_named new base (entry_at table i import_named_symbol_entry_size)) 0 count tt

unfoldable pub serve_all_modules : Module → ℕ → Prog (Unit {0})
serve_all_modules new base = do
  table ← field base import_module_table_offset
  count ← field base import_module_num
  loop (λ i _. serve_module new base (entry_at table i import_module_entry_size)) 0 count tt
