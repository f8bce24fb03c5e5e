-- The three calls over the modules that stand: programs of accesses that give an answer.
use Rattle.std.specs.Prelude.{if◌then◌else◌, ℕ, suc, ◌*◌, List, [], ◌∷◌, Bool, true, ◌&&◌, length, eqb, ltb, leb, Option, Some, None, Ok, Err}
use Rattle.window.specs.Memory.{◌⊕◌}
use Rattle.window.specs.Access.{Prog, ret, ◌>>=◌, ◌>>◌, get32}
use Rattle.layout.specs.Header.{magic, next_cro, previous_cro}
use Rattle.layout.specs.Tables.{pointer_tables}
use Rattle.layout.specs.Segments.{set_field}
use Rattle.register.specs.Module.{Module, Register}
use Rattle.register.specs.Encode.{encode_words, record_names}
use Rattle.register.specs.Change.{appended, removed, without, with_crs}
use Rattle.register.specs.Append.Draft.{room_in}
use Rattle.linker_spec.specs.declared.rebase.LoadArguments.{LoadArguments}
use Rattle.linker_spec.specs.Rebase.{is_magic, move_header, move_segments, look_at_segments, move_tables}
use Rattle.linker_spec.specs.Relocation.{apply_internal_relocations, reset_external_relocations}
use Rattle.linker_spec.specs.Exports.{read_module}
use Rattle.linker_spec.specs.Imports.{apply_import_named_symbols, apply_module_imports, apply_exports_to_loaded}
use Rattle.linker_spec.specs.Resets.{reset_importers}
use Rattle.linker_spec.specs.Lists.{register, unregister}
use Rattle.linker_spec.specs.Fix.{fix}
use Rattle.linker_spec.specs.Unrebase.{unrebase}
use Rattle.linker_spec.specs.declared.refusal.Refusal.{Refusal}
use Rattle.linker_spec.specs.declared.refusal.Refusal.TheVariants.{NoRoom}
use Rattle.linker_spec.specs.declared.refusal.RebaseError.{RebaseError}
use Rattle.linker_spec.specs.Refusal.{refusal_number, rebase_refusal, Rebased}

-- what a call answers, for each row of the table of numbers; `NotLoaded` is an unload of an unknown base
pub data Answer : Type 0 where
  Refused : Refusal → Answer
  NotLoaded : Answer
  Done : ℕ → Register → Answer

-- the table of numbers
unfoldable pub number : Answer → ℕ
number (Refused refusal) = refusal_number refusal
number NotLoaded = 0
number (Done v r) = 0

-- "Beside the number stands a value"; "with 1 to 5 it is 0"
unfoldable pub value : Answer → ℕ
value (Refused refusal) = 0
value NotLoaded = 0
value (Done v r) = v

-- after the segments: the five pointer tables, then the internal relocations
unfoldable pub relocate : ℕ → Option ℕ → Prog Rebased
relocate base None = ret (Err RebaseError.BadSegment)
relocate base (Some old) = do
  move_tables true base pointer_tables
  apply_internal_relocations base old
  ret (Ok tt)

-- "magic not CRO0 or CRS0"; the header's offsets, the segments, and what follows them
unfoldable pub rebase_with : ℕ → Prog (Option ℕ) → Prog Rebased
rebase_with base segments = do
  word ← get32 (base ⊕ magic)
  if is_magic word then (do
    move_header true base
    m ← segments
    relocate base m) else ret (Err RebaseError.NotACro)

unfoldable pub rebase : LoadArguments → Prog Rebased
rebase l = rebase_with l.base (move_segments l)

-- "The old place counts from .. address 0 in `initialize`."
unfoldable pub rebase_static : ℕ → Prog Rebased
rebase_static base = rebase_with base (look_at_segments base >> ret (Some 0))

-- "64 modules stand, or the record or its names exceed the free bytes", of so many lent records and name bytes
unfoldable pub fits : ℕ → ℕ → Register → Module → Bool
fits records names r m =
    ltb (length r.modules) 64
    && (leb (4 * length (encode_words (appended r m))) (room_in records)
    && leb (length (record_names (appended r m).modules)) (room_in names))

-- after a rebase: the external reset, the module's record, and what the call does with it if there is room
unfoldable pub add_record : (records names : ℕ) → Register → (base size : ℕ) → Bool → (Module → Prog Answer) → Rebased → Prog Answer
add_record records names r base size auto next (Err error) = ret (Refused (rebase_refusal error))
add_record records names r base size auto next (Ok _) = do
  reset_external_relocations base
  m ← read_module base size auto
  if fits records names r m then next m else ret (Refused NoRoom)

-- "no module hangs off it yet"
unfoldable pub initialized : Register → ℕ → Module → Prog Answer
initialized r base m = do
  set_field base next_cro 0
  set_field base previous_cro 0
  ret (Done 0 (with_crs (appended r m) base))

unfoldable pub initialize : (base size records names : ℕ) → Register → Prog Answer
initialize base size records names r = do
  x ← rebase_static base
  add_record records names r base size true (initialized r base) x

unfoldable pub listed : Option ℕ → ℕ → Bool → Prog (Unit {0})
listed None base auto = ret tt
listed (Some crs) base auto = register crs base auto

unfoldable pub missing_now : Register → List (List ℕ) → Register
missing_now r missing = record { modules = r.modules; crs = r.crs; missing = missing }

-- into its list; its own imports, itself among the modules; the others' imports from it; fixed
unfoldable pub linked : Register → LoadArguments → Bool → ℕ → Module → Prog Answer
linked r l auto level m = do
  listed r.crs l.base auto
  missing ← apply_import_named_symbols (appended r m).modules l.base r.missing
  apply_module_imports (appended r m).modules l.base
  apply_exports_to_loaded m r.modules
  fixed ← fix l.base l.size level
  ret (Done fixed (missing_now (appended r m) missing))

unfoldable pub load : LoadArguments → Bool → (level records names : ℕ) → Register → Prog Answer
load l auto level records names r = do
  x ← rebase l
  add_record records names r l.base l.size auto (linked r l auto level) x

-- the first module with that base, and its number
pub data FirstWithBase : Type 0 where
  unknown : FirstWithBase
  stands : Module → ℕ → FirstWithBase

unfoldable pub first_with_base : ℕ → List Module → ℕ → FirstWithBase
first_with_base base [] k = unknown
first_with_base base (m ∷ ms) k = if eqb m.base base then stands m k else first_with_base base ms (suc k)

unfoldable pub unlisted : Option ℕ → ℕ → Prog (Unit {0})
unlisted None base = ret tt
unlisted (Some crs) base = unregister crs base

-- "Unload of an unknown base changes nothing. It takes the first record with that base."
unfoldable pub leave : Register → ℕ → FirstWithBase → Prog Answer
leave r base unknown = ret NotLoaded
leave r base (stands m k) = do
  reset_importers m (without r.modules k)
  unlisted r.crs base
  unrebase base
  ret (Done 1 (removed r k))

unfoldable pub unload : ℕ → Register → Prog Answer
unload base r = leave r base (first_with_base base r.modules 0)
