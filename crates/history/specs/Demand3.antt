-- Demand 3: history must not show. The premises, each under its own name, and the claim about a linker and any two whole sessions.
use Rattle.std.specs.Prelude.{ℕ, ◌<◌, ◌≡◌, ◌≢◌, List, [], ◌∷◌, map, true, false, length, Some}
use Rattle.window.specs.Memory.{byte_at}
use Rattle.window.specs.Within.{In, Agree}
use Rattle.linker_spec.specs.declared.call.Call.{Call}
use Rattle.linker_spec.specs.declared.call.Call.TheVariants.{Initialize, Load, Unload}
use Rattle.history.specs.Below.{Each, Pairs}
use Rattle.history.specs.Image.{named_exports, count, module_name}
use Rattle.history.specs.LoadedModule.{LoadCall, initialized, loaded, Image, LoadedModule, image_of, base_of, is_crs, handler, Area, export_name, export_address, export_of}
use Rattle.history.specs.Imports.{Import, IsImport, Exports, Exporter, Holds}
use Rattle.history.specs.WellLaid.{WellLaid}
use Rattle.history.specs.Sessions.{CallRecord, after, expected, done, own, loaded_modules, standing, Trace}
use Rattle.history.specs.Outcomes.{Linker, Made, Follows}

-- "the CRS is initialised first" and once, "and stays"; S has come before the call
unfoldable pub InOrder : Call → List LoadedModule → Type 0
InOrder (Initialize base size) S = S ≡ []
InOrder (Load l auto level) S = S ≢ []
InOrder (Unload base) S = Each (λ a. is_crs a.load_call ≡ true → base_of a.load_call ≢ base) S

-- of the modules that come: auto-linked, fixed at no level 2 or 3, at no base 0
unfoldable pub AutoLinked : LoadCall → Type 0
AutoLinked (initialized base size) = Unit {0}
AutoLinked (loaded l auto level) = auto ≡ true

unfoldable pub ImportsKept : LoadCall → Type 0
ImportsKept (initialized base size) = Unit {0}
ImportsKept (loaded l auto level) = (level ≢ 2) × (level ≢ 3)

abbrev pub BaseNot0 : LoadCall → Type 0
BaseNot0 c = base_of c ≢ 0

-- "areas never overlap", not even those of modules that left
unfoldable pub Apart : Image → Image → Type 0
Apart a b = (q : ℕ) → Area a q → Area b q → ⊥

-- "no module or export name comes twice": not in two modules, nor, of exports with a usable tag, twice in one table
unfoldable pub OtherName : Image → Image → Type 0
OtherName a b = module_name a.file ≢ module_name b.file

unfoldable pub OtherExports : Image → Image → Type 0
OtherExports a b = (name : List ℕ) (p q : ℕ) → export_of a name ≡ Some p → export_of b name ≡ Some q → ⊥

unfoldable pub ExportsOnce : Image → Type 0
ExportsOnce a =
    (i j : ℕ) → i < count a.file named_exports → j < count a.file named_exports → export_name a i ≡ export_name a j
    → (p q : ℕ) → export_address a i ≡ Some p → export_address a j ≡ Some q → i ≡ j

-- "A refused call that leaves all unchanged .. may come anywhere ..; no other call is refused"
unfoldable pub Harmless : CallRecord → Type 0
Harmless t = done t ≡ false → (expected t).left ≡ t.before

unfoldable pub CrsFirst : List CallRecord → Type 0
CrsFirst [] = Unit {0}
CrsFirst (t ∷ ts) = (done t ≡ true → InOrder t.call (loaded_modules ts)) × CrsFirst ts

-- of the session's own calls: in the window lent to the last; where they follow document 01 all have its address and length
unfoldable pub InWindow : List CallRecord → Image → Type 0
InWindow [] a = Unit {0}
InWindow (t ∷ ts) a = (q : ℕ) → Area a q → In t.at (length t.before.window) q

-- the images that came
abbrev pub images : List CallRecord → List Image
images ts = map image_of (loaded_modules ts)

pub record Premises (ts : List CallRecord) : Type 0 where
  pub harmless : Each Harmless ts
  pub crs-first : CrsFirst ts
  pub auto_linked : Each (λ m. AutoLinked m.load_call) (images ts)
  pub imports_kept : Each (λ m. ImportsKept m.load_call) (images ts)
  pub base-not_0 : Each (λ m. BaseNot0 m.load_call) (images ts)
  pub in_window : Each (InWindow (own ts)) (images ts)
  pub areas_apart : Pairs Apart (images ts)
  pub other-names : Pairs OtherName (images ts)
  pub other_exports : Pairs OtherExports (images ts)
  pub exports_once : Each ExportsOnce (images ts)
  pub well_laid : Each WellLaid (images ts)

-- "every import .. holds its exporter's address if that stands and has the export, else the handler's": M are the bytes, S stands
unfoldable pub ImportClause : List Image → (ℕ → ℕ) → Image → Type 0
ImportClause S M m =
    (i : Import) → IsImport m.file i
    → Each (λ x. (p : ℕ) → Exporter x m i p → Holds M m i p) S
    × (Each (λ x. (p : ℕ) → Exporter x m i p → ⊥) S → Holds M m i (handler m))

-- "the CRS's imports from itself keep the handler's"
unfoldable pub CrsClause : (ℕ → ℕ) → Image → Type 0
CrsClause M m =
    is_crs m.load_call ≡ true → (i : Import) → IsImport m.file i → (p : ℕ) → Exports m m i p → Holds M m i (handler m)

-- "the same CRS and modules standing, loaded in the same order, places and parameters, with equal bytes when loaded"
unfoldable pub SameStanding : List LoadedModule → List LoadedModule → Type 0
SameStanding [] [] = Unit {0}
SameStanding (a ∷ S) (b ∷ T) = (a.load_call ≡ b.load_call) × Agree (Area (image_of a)) a.bytes b.bytes × SameStanding S T
SameStanding [] (b ∷ T) = ⊥
SameStanding (a ∷ S) [] = ⊥

-- the bytes that calls on the session's own window leave
unfoldable pub bytes_left : List CallRecord → ℕ → ℕ
bytes_left [] q = 0
bytes_left (t ∷ ts) q = byte_at t.at (after t).window q

-- the session's bytes after all its calls
abbrev pub bytes_after : List CallRecord → ℕ → ℕ
bytes_after ts = bytes_left (own ts)

-- every import of every module in S holds its address, where M are the bytes and S stands
unfoldable pub AllHold : List Image → (ℕ → ℕ) → Type 0
AllHold S M = Each (λ m. ImportClause S M m × CrsClause M m) S

-- after every call
unfoldable pub Linked : List CallRecord → Type 0
Linked [] = Unit {0}
Linked (t ∷ ts) = AllHold (map image_of (standing (t ∷ ts))) (bytes_after (t ∷ ts)) × Linked ts

-- "no byte of the CRS's or a standing module's areas differs"
unfoldable pub NoByteDiffers : List CallRecord → List CallRecord → Type 0
NoByteDiffers ts us = Each (λ a. Agree (Area (image_of a)) (bytes_after ts) (bytes_after us)) (standing ts)

-- of a linker and any two whole sessions that it was called in, under the premises: each call gives document 01's outcome, after
-- each call every import holds its address, and where the sessions end alike no byte differs
unfoldable pub Demand3 : Linker → Type 0
Demand3 L =
    (at bt : ℕ) (ts us : List CallRecord) → Trace at ts → Trace bt us → Made L ts → Made L us → Premises ts → Premises us
    → (Made Follows ts × Linked ts) × (Made Follows us × Linked us) × (SameStanding (standing ts) (standing us) → NoByteDiffers ts us)
