-- Imports of a new module, and the imports of the others that it serves.
use Rattle.std.specs.Prelude.{if◌then◌else◌, ℕ, List, [], ◌∷◌, ◌++◌, Bool, true, false, length, eqb, ltb, Option, Some, None}
use Rattle.window.specs.Memory.{◌⊕◌}
use Rattle.window.specs.Access.{Prog, ret, ◌>>=◌, ◌>>◌, get32}
use Rattle.window.specs.Loop.{loop}
use Rattle.window.specs.Name.{name_at}
use Rattle.layout.specs.Header.{import_named_symbol_table_offset, import_named_symbol_num, import_named_symbol_entry_size, import_module_table_offset, import_module_num, import_module_entry_size, import_indexed_symbol_entry_size, import_anonymous_symbol_entry_size}
use Rattle.layout.specs.Format.{tag_segment, tag_offset}
use Rattle.layout.specs.Segments.{field, entry_at}
use Rattle.register.specs.Words.{same}
use Rattle.register.specs.Module.{Module}
use Rattle.register.specs.Read.Read.{lookup_in, export_of, entry_of}
use Rattle.linker_spec.specs.Relocation.{apply_relocation_batch, batch_is_resolved}

-- "An anonymous export exists if its segment does, and is that segment's address + offset, size untested."
abbrev pub plus : Option ℕ → ℕ → Option ℕ
plus (Some a) offset = Some (a ⊕ offset)
plus None offset = None

unfoldable pub anonymous_of : Module → ℕ → Option ℕ
anonymous_of m tag = plus (entry_of m.segments (tag_segment tag)) (tag_offset tag)

-- a batch of 0, or a resolved one, is passed over; a batch of 0 has no mark to read
unfoldable pub is_unresolved : ℕ → Prog Bool
is_unresolved batch = if eqb batch 0 then ret false else (do
  resolved ← batch_is_resolved batch
  ret (if resolved then false else true))

-- the batch gets the symbol's address and is marked; with no such symbol it stays
unfoldable pub resolve : ℕ → ℕ → Option ℕ → Prog (Unit {0})
resolve base batch (Some a) = apply_relocation_batch base batch a true >> ret tt
resolve base batch None = ret tt

-- "Missing names stop at 64 and are never cleared."
abbrev pub most_missing : ℕ
most_missing = 64

unfoldable pub add_missing : Option ℕ → List ℕ → List (List ℕ) → List (List ℕ)
add_missing (Some a) name missing = missing
add_missing None name missing = if ltb (length missing) most_missing then missing ++ (name ∷ []) else missing

-- a named import of the new module: the batch, its mark, then the name
unfoldable pub import_named : List Module → ℕ → ℕ → List (List ℕ) → Prog (List (List ℕ))
import_named ms base entry missing = do
  batch ← get32 (entry ⊕ 4)
  unresolved ← is_unresolved batch
  if unresolved then (do
    p ← get32 entry
    name ← name_at p
    resolve base batch (lookup_in ms name)
    ret (add_missing (lookup_in ms name) name missing)) else ret missing

unfoldable pub apply_import_named_symbols : List Module → ℕ → List (List ℕ) → Prog (List (List ℕ))
apply_import_named_symbols ms base missing = do
  table ← field base import_named_symbol_table_offset
  count ← field base import_named_symbol_num
  loop (λ i xs. import_named ms base (entry_at table i import_named_symbol_entry_size) xs) 0 count missing

-- an import by index or by tag, from the module that its entry names
unfoldable pub import_from : (ℕ → Option ℕ) → ℕ → ℕ → Prog (Unit {0})
import_from symbol base entry = do
  x ← get32 entry
  batch ← get32 (entry ⊕ 4)
  unresolved ← is_unresolved batch
  if unresolved then resolve base batch (symbol x) else ret tt

unfoldable pub link_from : Option Module → (base indexed n anonymous m : ℕ) → Prog (Unit {0})
link_from None base indexed n anonymous m = ret tt
link_from (Some source) base indexed n anonymous m = do
  loop (λ i _. import_from (entry_of source.indexed) base (entry_at indexed i import_indexed_symbol_entry_size)) 0 n tt
  loop (λ i _. import_from (anonymous_of source) base (entry_at anonymous i import_anonymous_symbol_entry_size)) 0 m tt

-- a module entry's two tables
unfoldable pub imports_of : Option Module → ℕ → ℕ → Prog (Unit {0})
imports_of source base entry = do
  indexed ← get32 (entry ⊕ 4)
  n ← get32 (entry ⊕ 8)
  anonymous ← get32 (entry ⊕ 12)
  m ← get32 (entry ⊕ 16)
  link_from source base indexed n anonymous m

-- the first module of that name, auto-linked or not
unfoldable pub module_by_name : List Module → List ℕ → Option Module
module_by_name [] name = None
module_by_name (m ∷ ms) name = if same name m.name then Some m else module_by_name ms name

-- the tables are read even if no module has the name
unfoldable pub import_module : List Module → ℕ → ℕ → Prog (Unit {0})
import_module ms base entry = do
  p ← get32 entry
  name ← name_at p
  imports_of (module_by_name ms name) base entry

unfoldable pub apply_module_imports : List Module → ℕ → Prog (Unit {0})
apply_module_imports ms base = do
  table ← field base import_module_table_offset
  count ← field base import_module_num
  loop (λ i _. import_module ms base (entry_at table i import_module_entry_size)) 0 count tt

-- a named import of a module that stands, served by the new one's exports
unfoldable pub serve_named : Module → ℕ → ℕ → Prog (Unit {0})
serve_named new base entry = do
  batch ← get32 (entry ⊕ 4)
  unresolved ← is_unresolved batch
  if unresolved then (do
    p ← get32 entry
    name ← name_at p
    resolve base batch (export_of new name)) else ret tt

-- a module entry of a module that stands: its tables are read only if it names the new one
unfoldable pub serve_module : Module → ℕ → ℕ → Prog (Unit {0})
serve_module new base entry = do
  p ← get32 entry
  name ← name_at p
  if same name new.name then imports_of (Some new) base entry else ret tt

unfoldable pub serve : Module → ℕ → Prog (Unit {0})
serve new base = do
  table ← field base import_named_symbol_table_offset
  count ← field base import_named_symbol_num
  loop (λ i _. serve_named new base (entry_at table i import_named_symbol_entry_size)) 0 count tt
  entries ← field base import_module_table_offset
  number ← field base import_module_num
  loop (λ i _. serve_module new base (entry_at entries i import_module_entry_size)) 0 number tt

-- "A new module's exports reach all others, auto-linked or not."
unfoldable pub apply_exports_to_loaded : Module → List Module → Prog (Unit {0})
apply_exports_to_loaded new [] = ret tt
apply_exports_to_loaded new (m ∷ ms) = do
  serve new m.base
  apply_exports_to_loaded new ms
