-- "Sessions in demand 3": calls, what came and stands after them, and what each is lent. What came and stands is read from the definition
-- (`expected`); what is lent next is what the call left (`after`), and that it is document 01's is not asked here.
pub mod Lists
pub mod Unique
pub mod Registers
pub mod Answers
pub mod Conclude
use Rattle.std.specs.Prelude.{if◌then◌else◌, ℕ, ◌^◌, ◌<◌, ◌≡◌, ◌⊎◌, List, [], ◌∷◌, ◌++◌, Bool, false, not, ◌||◌, length, eqb, None}
use Rattle.window.specs.Memory.{byte_at}
use Rattle.window.specs.Within.{Agree}
use Rattle.linker_spec.specs.declared.call.Call.{Call}
use Rattle.linker_spec.specs.declared.call.Call.TheVariants.{Initialize, Load, Unload}
use Rattle.linker_spec.specs.Outcome.{Buffers, Outcome, initialize_outcome, load_outcome, unload_outcome}
use Rattle.linker_spec.specs.Refusals.{lent_register}
use Rattle.linker_spec.specs.Valid.{AreBytes}
use Rattle.linker_spec.specs.declared.refusal.Refusal.TheVariants.{BadWindow, NoRegister}
use Rattle.linker_spec.specs.Refusal.{refusal_number}
use Rattle.history.specs.LoadedModule.{initialized, loaded, LoadedModule, image_of, base_of, is_crs, Area}

-- what the definition gives
unfoldable pub given : Call → ℕ → Buffers → Outcome
given (Initialize base size) at b = initialize_outcome base size at b
given (Load l auto level) at b = load_outcome l auto level at b
given (Unload base) at b = unload_outcome base at b

-- a call of a session: the window's address and the bytes that it was lent, and what it gave; sessions list their calls from the last one back
pub record CallRecord : Type 0 where
  pub call : Call
  pub at : ℕ
  pub before : Buffers
  pub gave : Outcome

abbrev pub call_record : Call → ℕ → Buffers → Outcome → CallRecord
call_record c at b o = record { call = c; at = at; before = b; gave = o }

abbrev pub after : CallRecord → Buffers
after t = t.gave.left

-- "Which calls are refused, and what a call gave, are read from this document, whatever the linker under test answers."
abbrev pub expected : CallRecord → Outcome
expected t = given t.call t.at t.before

unfoldable pub done : CallRecord → Bool
done t = eqb (expected t).number 0

-- lent a window or a register that breaks its rule: 3 or 4
unfoldable pub unfit : CallRecord → Bool
unfit t = eqb (expected t).number (refusal_number BadWindow) || eqb (expected t).number (refusal_number NoRegister)

-- the calls lent a window and a register that keep their rules: these are the session's own
unfoldable pub own : List CallRecord → List CallRecord
own [] = []
own (t ∷ ts) = if unfit t then own ts else t ∷ own ts

-- the module that a call brings, if it does; "An auto-link parameter other than 0 counts as 1."
unfoldable pub comes : Call → (ℕ → ℕ) → List LoadedModule
comes (Initialize base size) M = record { load_call = initialized base size; bytes = M } ∷ []
comes (Load l auto level) M = record { load_call = loaded l (not (eqb auto 0)) level; bytes = M } ∷ []
comes (Unload base) M = []

unfoldable pub brought : CallRecord → List LoadedModule
brought t = if done t then comes t.call (byte_at t.at t.before.window) else []

-- all that came, in order
unfoldable pub loaded_modules : List CallRecord → List LoadedModule
loaded_modules [] = []
loaded_modules (t ∷ ts) = loaded_modules ts ++ brought t

-- those with another base, and the CRS
unfoldable pub others : ℕ → List LoadedModule → List LoadedModule
others base [] = []
others base (a ∷ S) =
    if is_crs a.load_call || not (eqb (base_of a.load_call) base) then a ∷ others base S else others base S

unfoldable pub stay : Call → List LoadedModule → List LoadedModule
stay (Initialize base size) S = S
stay (Load l auto level) S = S
stay (Unload base) S = others base S

-- "a module stands if a load of its base so far gave 0 and no later unload of that base so far did; the CRS from its initialize on"
unfoldable pub standing : List CallRecord → List LoadedModule
standing [] = []
standing (t ∷ ts) = (if done t then stay t.call (standing ts) else standing ts) ++ brought t

-- the address lies in an area of one of them
unfoldable pub Areas : List LoadedModule → ℕ → Type 0
Areas [] q = ⊥
Areas (a ∷ S) q = Area (image_of a) q ⊎ Areas S q

-- "The register starts with no module and no CRS."
unfoldable pub Fresh : Buffers → Type 0
Fresh b = ((lent_register b).modules ≡ []) × ((lent_register b).crs ≡ None)

-- arguments are 32-bit numbers
unfoldable pub WordArguments : Call → Type 0
WordArguments (Initialize base size) = (base < 2 ^ 32) × (size < 2 ^ 32)
WordArguments (Load l auto level) =
    (l.base < 2 ^ 32) × (l.size < 2 ^ 32) × (l.data_segment < 2 ^ 32) × (l.data_segment_size < 2 ^ 32) × (l.bss_segment < 2 ^ 32)
    × (l.bss_segment_size < 2 ^ 32) × (auto < 2 ^ 32) × (level < 2 ^ 32)
WordArguments (Unload base) = base < 2 ^ 32

-- and the window and the records lent are bytes
abbrev pub Typed : CallRecord → Type 0
Typed t = WordArguments t.call × AreBytes t.before

-- the same register bytes
abbrev pub SameBytes : Buffers → Buffers → Type 0
SameBytes b c = (b.records ≡ c.records) × (b.names ≡ c.names) × (b.missing ≡ c.missing)

module _ (at : ℕ) where
  -- "Each call gets window and register as the last left them, save window bytes outside all areas loaded so far"
  pub record Between (ts : List CallRecord) (left got : Buffers) : Type 0 where
    pub register : SameBytes left got
    pub length_kept : length left.window ≡ length got.window
    pub areas_kept : Agree (Areas (loaded_modules ts)) (byte_at at left.window) (byte_at at got.window)

  -- what the next call may be lent, after the session's own calls ts
  unfoldable pub Lends : List CallRecord → Buffers → Type 0
  Lends [] b = Fresh b
  Lends (t ∷ ts) b = Between (t ∷ ts) (after t) b

  -- the next call is lent that, at the session's address; or what breaks a rule, after which the last bytes stand:
  -- "A refused call that leaves all unchanged (1, 3 and 4 always do) may come anywhere, even before the CRS"
  unfoldable pub Next : List CallRecord → CallRecord → Type 0
  Next ts t = unfit t ≡ false → (t.at ≡ at) × Lends (own ts) t.before

  -- "A session is a list of .. calls, of any length, on a window and register of its own." What made them is said apart (`Made`).
  unfoldable pub Trace : List CallRecord → Type 0
  Trace [] = Unit {0}
  Trace (t ∷ ts) = Typed t × Next ts t × Trace ts
