-- A load that patches the first entry of each batch alone and marks the batch as resolved: the definition's steps, by their own names,
-- but for the walk of one entry in `resolve`.
use Rattle.std.specs.Prelude.{if◌then◌else◌, ℕ, List, [], ◌∷◌, Bool, not, eqb, Option, Some, None}
use Rattle.window.specs.Memory.{◌⊕◌}
use Rattle.window.specs.Access.{Prog, ret, ◌>>=◌, ◌>>◌, get32, put8}
use Rattle.window.specs.Loop.{loop}
use Rattle.window.specs.Name.{name_at}
use Rattle.layout.specs.Header.{import_named_symbol_table_offset, import_named_symbol_num, import_named_symbol_entry_size, import_module_table_offset, import_module_num, import_module_entry_size, import_indexed_symbol_entry_size, import_anonymous_symbol_entry_size}
use Rattle.layout.specs.Segments.{field, entry_at}
use Rattle.register.specs.Module.{Module, Register}
use Rattle.register.specs.Change.{appended}
use Rattle.register.specs.Words.{same}
use Rattle.register.specs.Read.Read.{lookup_in, export_of, entry_of}
use Rattle.linker_spec.specs.declared.rebase.LoadArguments.{LoadArguments}
use Rattle.linker_spec.specs.declared.call.Call.{Call}
use Rattle.linker_spec.specs.declared.call.Call.TheVariants.{Initialize, Load, Unload}
use Rattle.linker_spec.specs.Relocation.{walk}
use Rattle.linker_spec.specs.Imports.{anonymous_of, is_unresolved, add_missing, module_by_name}
use Rattle.linker_spec.specs.Fix.{fix}
use Rattle.linker_spec.specs.Calls.{Answer, Done, rebase, add_record, listed, missing_now}
use Rattle.linker_spec.specs.Outcome.{Buffers, Outcome, call_outcome}
use Rattle.history.specs.Sessions.{given}

-- one entry, and the mark
unfoldable pub resolve : ℕ → ℕ → Option ℕ → Prog (Unit {0})
resolve base batch (Some a) = do
  n ← walk 1 base a batch 0
  put8 (batch ⊕ 6) 1
resolve base batch None = ret tt

unfoldable pub import_named : List Module → ℕ → ℕ → List (List ℕ) → Prog (List (List ℕ))
import_named ms base entry missing = do
  batch ← get32 (entry ⊕ 4)
  unresolved ← is_unresolved batch
  if unresolved then (do
    p ← get32 entry
    name ← name_at p
    resolve base batch (lookup_in ms name)
    ret (add_missing (lookup_in ms name) name missing)) else ret missing

unfoldable pub apply_import_named_symbols : List Module → ℕ → List (List ℕ) → Prog (List (List ℕ))
apply_import_named_symbols ms base missing = do
  table ← field base import_named_symbol_table_offset
  count ← field base import_named_symbol_num
  loop (λ i xs. import_named ms base (entry_at table i import_named_symbol_entry_size) xs) 0 count missing

unfoldable pub import_from : (ℕ → Option ℕ) → ℕ → ℕ → Prog (Unit {0})
import_from symbol base entry = do
  x ← get32 entry
  batch ← get32 (entry ⊕ 4)
  unresolved ← is_unresolved batch
  if unresolved then resolve base batch (symbol x) else ret tt

unfoldable pub link_from : Option Module → (base indexed n anonymous m : ℕ) → Prog (Unit {0})
link_from None base indexed n anonymous m = ret tt
link_from (Some source) base indexed n anonymous m = do
  loop (λ i _. import_from (entry_of source.indexed) base (entry_at indexed i import_indexed_symbol_entry_size)) 0 n tt
  loop (λ i _. import_from (anonymous_of source) base (entry_at anonymous i import_anonymous_symbol_entry_size)) 0 m tt

unfoldable pub imports_of : Option Module → ℕ → ℕ → Prog (Unit {0})
imports_of source base entry = do
  indexed ← get32 (entry ⊕ 4)
  n ← get32 (entry ⊕ 8)
  anonymous ← get32 (entry ⊕ 12)
  m ← get32 (entry ⊕ 16)
  link_from source base indexed n anonymous m

unfoldable pub import_module : List Module → ℕ → ℕ → Prog (Unit {0})
import_module ms base entry = do
  p ← get32 entry
  name ← name_at p
  imports_of (module_by_name ms name) base entry

unfoldable pub apply_module_imports : List Module → ℕ → Prog (Unit {0})
apply_module_imports ms base = do
  table ← field base import_module_table_offset
  count ← field base import_module_num
  loop (λ i _. import_module ms base (entry_at table i import_module_entry_size)) 0 count tt

unfoldable pub serve_named : Module → ℕ → ℕ → Prog (Unit {0})
serve_named new base entry = do
  batch ← get32 (entry ⊕ 4)
  unresolved ← is_unresolved batch
  if unresolved then (do
    p ← get32 entry
    name ← name_at p
    resolve base batch (export_of new name)) else ret tt

unfoldable pub serve_module : Module → ℕ → ℕ → Prog (Unit {0})
serve_module new base entry = do
  p ← get32 entry
  name ← name_at p
  if same name new.name then imports_of (Some new) base entry else ret tt

unfoldable pub serve : Module → ℕ → Prog (Unit {0})
serve new base = do
  table ← field base import_named_symbol_table_offset
  count ← field base import_named_symbol_num
  loop (λ i _. serve_named new base (entry_at table i import_named_symbol_entry_size)) 0 count tt
  entries ← field base import_module_table_offset
  number ← field base import_module_num
  loop (λ i _. serve_module new base (entry_at entries i import_module_entry_size)) 0 number tt

unfoldable pub apply_exports_to_loaded : Module → List Module → Prog (Unit {0})
apply_exports_to_loaded new [] = ret tt
apply_exports_to_loaded new (m ∷ ms) = do
  serve new m.base
  apply_exports_to_loaded new ms

unfoldable pub linked : Register → LoadArguments → Bool → ℕ → Module → Prog Answer
linked r l auto level m = do
  listed r.crs l.base auto
  missing ← apply_import_named_symbols (appended r m).modules l.base r.missing
  apply_module_imports (appended r m).modules l.base
  apply_exports_to_loaded m r.modules
  fixed ← fix l.base l.size level
  ret (Done fixed (missing_now (appended r m) missing))

unfoldable pub load : LoadArguments → Bool → (level records names : ℕ) → Register → Prog Answer
load l auto level records names r = do
  x ← rebase l
  add_record records names r l.base l.size auto (linked r l auto level) x

unfoldable pub first_entry_only : Call → ℕ → Buffers → Outcome
first_entry_only (Initialize base size) at b = given (Initialize base size) at b
first_entry_only (Load l auto level) at b = call_outcome (load l (not (eqb auto 0)) level) at b
first_entry_only (Unload base) at b = given (Unload base) at b

-- all of it, to be unfolded by one name
unfoldable pub first_entry_steps : Unit {0}
unfolding
    resolve import_named apply_import_named_symbols import_from link_from imports_of import_module apply_module_imports serve_named serve_module serve
    apply_exports_to_loaded linked load first_entry_only
first_entry_steps = tt
