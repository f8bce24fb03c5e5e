-- Touches of a call: whether one of its accesses had a byte outside the window, and where the first such access started.
-- They are those of the very programs of accesses that give the call's outcome.
use Rattle.std.specs.Prelude.{if◌then◌else◌, ℕ, ◌≡◌, refl, List, not, ◌&&◌, length, replicate, eqb, Ok, Err}
use Rattle.window.specs.Memory.{place, byte_at, word_at, good_window}
use Rattle.window.specs.Access.{Prog, ret, ◌>>=◌, run}
use Rattle.window.specs.Trace.{run_t, touch_of}
use Rattle.window.specs.Silent.{quiet}
use Rattle.register.specs.Module.{Register}
use Rattle.register.specs.Decode.{register_of, is_register}
use Rattle.linker_spec.specs.declared.call.Call.{Call}
use Rattle.linker_spec.specs.declared.call.Call.TheVariants.{Initialize, Load, Unload}
use Rattle.linker_spec.specs.declared.rebase.LoadArguments.{LoadArguments}
use Rattle.linker_spec.specs.Refusal.{Rebased}
use Rattle.linker_spec.specs.Relocation.{reset_external_relocations}
use Rattle.linker_spec.specs.Calls.{Answer, number, rebase, rebase_static, initialize, load, unload}
use Rattle.linker_spec.specs.Outcome.{Buffers}
use Rattle.linker_spec.specs.declared.refusal.Refusal.TheVariants.{NoRoom}
use Rattle.linker_spec.specs.Refusal.{refusal_number}

-- a trace of which nothing is said yet, and which keeps no log
abbrev pub no_touch : List ℕ
no_touch = replicate 16 0

pub no_log : quiet no_touch
unfolding word_at byte_at place
no_log = refl

pub none_said : touch_of no_touch ≡ (0, 0)
unfolding touch_of word_at byte_at place
none_said = refl

-- the touch that a program leaves, a yes or no (1 or 0) and a starting address; "0 stands beside a no"
unfoldable pub touch_in : {A : Type 0} → ℕ → Prog A → List ℕ → ℕ × ℕ
touch_in at m w = touch_of (run_t at m (w, no_touch)).1.1

-- "With number 5, accesses to the end of the external reset count."
unfoldable pub reset_rebased : ℕ → Rebased → Prog (Unit {0})
reset_rebased base (Err error) = ret tt
reset_rebased base (Ok _) = reset_external_relocations base

unfoldable pub up_to_reset : Prog Rebased → ℕ → Prog (Unit {0})
up_to_reset rebase base = rebase >>= reset_rebased base

-- what counts with an answer, of what the call's beginning leaves and of what the whole call leaves
unfoldable pub counted : {A : Type 0} → Answer → A → A → A
counted a beginning whole = if eqb (number a) (refusal_number NoRoom) then beginning else whole

-- with 3 and 4 no access is made
unfoldable pub touches : (ℕ → ℕ → Register → Prog Answer) → Prog (Unit {0}) → ℕ → Buffers → ℕ × ℕ
touches call beginning at b =
    if good_window at b.window && is_register b.records b.names b.missing
    then (let called = call (length b.records) (length b.names) (register_of b.records b.names b.missing) in
    counted (run at called b.window).0 (touch_in at beginning b.window) (touch_in at called b.window))
    else (0, 0)

unfoldable pub initialize_touches : (base size at : ℕ) → Buffers → ℕ × ℕ
initialize_touches base size at b = touches (initialize base size) (up_to_reset (rebase_static base) base) at b

unfoldable pub load_touches : LoadArguments → (auto level at : ℕ) → Buffers → ℕ × ℕ
load_touches l auto level at b = touches (load l (not (eqb auto 0)) level) (up_to_reset (rebase l) l.base) at b

-- an unload is never 5: its beginning does not count
unfoldable pub unload_touches : ℕ → ℕ → Buffers → ℕ × ℕ
unload_touches base at b = touches (λ records names. unload base) (ret tt) at b

-- of any of the three
unfoldable pub touches_of : Call → ℕ → Buffers → ℕ × ℕ
touches_of (Initialize base size) at b = initialize_touches base size at b
touches_of (Load l auto level) at b = load_touches l auto level at b
touches_of (Unload base) at b = unload_touches base at b
