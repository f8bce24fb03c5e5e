-- The resets of an unload: what linked against the module goes back to its own handler.
use Rattle.std.specs.Prelude.{if◌then◌else◌, ℕ, List, [], ◌∷◌, Bool, true, false, eqb, Option, Some, None}
use Rattle.window.specs.Memory.{◌⊕◌}
use Rattle.window.specs.Access.{Prog, ret, ◌>>=◌, ◌>>◌, get32}
use Rattle.window.specs.Loop.{loop}
use Rattle.window.specs.Name.{name_at}
use Rattle.layout.specs.Header.{import_named_symbol_table_offset, import_named_symbol_num, import_named_symbol_entry_size, import_module_table_offset, import_module_num, import_module_entry_size, import_indexed_symbol_entry_size, import_anonymous_symbol_entry_size}
use Rattle.layout.specs.Segments.{field, entry_at}
use Rattle.register.specs.Words.{same}
use Rattle.register.specs.Module.{Module}
use Rattle.register.specs.Read.Read.{export_of}
use Rattle.linker_spec.specs.Relocation.{unresolved_symbol, apply_relocation_batch, batch_is_resolved}

-- "Unload's resets write it even if 0": a resolved batch gets the handler's address, and its mark is cleared
unfoldable pub reset : (base handler batch : ℕ) → Prog (Unit {0})
reset base handler batch = if eqb batch 0 then ret tt else (do
  resolved ← batch_is_resolved batch
  if resolved then apply_relocation_batch base batch handler false >> ret tt else ret tt)

unfoldable pub reset_at : (base handler entry : ℕ) → Prog (Unit {0})
reset_at base handler entry = do
  batch ← get32 (entry ⊕ 4)
  reset base handler batch

abbrev pub exists : Option ℕ → Bool
exists (Some a) = true
exists None = false

-- a named import that the module exported: the name first, its batch only then
unfoldable pub reset_named : Module → (base handler entry : ℕ) → Prog (Unit {0})
reset_named gone base handler entry = do
  p ← get32 entry
  name ← name_at p
  if exists (export_of gone name) then reset_at base handler entry else ret tt

-- a module entry that names the module: both its tables, their places and counts read first
unfoldable pub reset_module : Module → (base handler entry : ℕ) → Prog (Unit {0})
reset_module gone base handler entry = do
  p ← get32 entry
  name ← name_at p
  if same name gone.name then (do
    indexed ← get32 (entry ⊕ 4)
    n ← get32 (entry ⊕ 8)
    anonymous ← get32 (entry ⊕ 12)
    m ← get32 (entry ⊕ 16)
    loop (λ i _. reset_at base handler (entry_at indexed i import_indexed_symbol_entry_size)) 0 n tt
    loop (λ i _. reset_at base handler (entry_at anonymous i import_anonymous_symbol_entry_size)) 0 m tt) else ret tt

unfoldable pub reset_imports : Module → ℕ → Prog (Unit {0})
reset_imports gone base = do
  handler ← unresolved_symbol base
  table ← field base import_named_symbol_table_offset
  count ← field base import_named_symbol_num
  loop (λ i _. reset_named gone base handler (entry_at table i import_named_symbol_entry_size)) 0 count tt
  entries ← field base import_module_table_offset
  number ← field base import_module_num
  loop (λ i _. reset_module gone base handler (entry_at entries i import_module_entry_size)) 0 number tt

-- "Unload resets auto-linked importers only."
unfoldable pub reset_importers : Module → List Module → Prog (Unit {0})
reset_importers gone [] = ret tt
reset_importers gone (m ∷ ms) = do
  if m.auto then reset_imports gone m.base else ret tt
  reset_importers gone ms
