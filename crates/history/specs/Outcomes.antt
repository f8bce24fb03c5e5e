-- What a linker may give: what the exported calls promise, and document 01's outcome.
use Rattle.std.specs.Prelude.{ℕ, ◌≡◌, List}
use Rattle.linker_spec.specs.declared.call.Call.{Call}
use Rattle.linker_spec.specs.declared.call.Call.TheVariants.{Initialize, Load, Unload}
use Rattle.linker_spec.specs.Outcome.{Buffers, Outcome, initialize_outcome, load_outcome, unload_outcome}
use Rattle.history.specs.Below.{Each}
use Rattle.history.specs.Sessions.{given, CallRecord}

-- which outcomes a linker may give for a call, the window's address and the lent bytes; one that gives none makes no session
abbrev pub Linker : Type 1
Linker = Call → ℕ → Buffers → Outcome → Type 0

-- such a linker may have made the call, and each of the calls
abbrev pub Gave : Linker → CallRecord → Type 0
Gave L t = L t.call t.at t.before t.gave

abbrev pub Made : Linker → List CallRecord → Type 0
Made L ts = Each (Gave L) ts

-- what the exported calls promise: their contracts, word for word, a load's six places as one `LoadArguments`
unfoldable pub Promised : Linker
Promised (Initialize base size) at b o = o ≡ initialize_outcome base size at b
Promised (Load l auto level) at b o = o ≡ load_outcome l auto level at b
Promised (Unload base) at b o = o ≡ unload_outcome base at b

-- document 01's outcome, to the last byte: number, value, window and register
abbrev pub Follows : Linker
Follows c at b o = o ≡ given c at b
