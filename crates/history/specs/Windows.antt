-- A call by its program, and what it leaves: a window that a run leaves, of the same length; a valid register; and bytes stay bytes.
use Rattle.std.specs.Prelude.{ℕ, ◌≡◌, refl, List, Bool, true, false, not, length, eqb}
use Rattle.window.specs.Memory.{good_window}
use Rattle.window.specs.Access.{Prog, ret, run, length_run}
use Rattle.register.specs.Module.{Register}
use Rattle.register.specs.Decode.{is_register}
use Rattle.linker_spec.specs.Calls as calls
use Rattle.linker_spec.specs.Calls.{Answer, NotLoaded, Done, Refused}
use Rattle.linker_spec.specs.Outcome.{Buffers, register_after, outcome_of, refusal_order, call_outcome, initialize_outcome, load_outcome, unload_outcome}
use Rattle.linker_spec.specs.Refusals.{lent_register}
use Rattle.linker_spec.specs.Valid.{Valid, AreBytes}
use Rattle.linker_spec.proofs.Valid.{initialize_valid, load_valid, unload_valid}
use Rattle.linker_spec.specs.declared.call.Call.{Call}
use Rattle.linker_spec.specs.declared.call.Call.TheVariants.{Initialize, Load, Unload}
use Rattle.linker_spec.specs.declared.refusal.Refusal.TheVariants.{NotACro}
use Rattle.history.specs.Sessions.{given, WordArguments}

-- a run that leaves such a window
abbrev pub RunLeaves : ℕ → List ℕ → List ℕ → Type 0
RunLeaves at w v = (m : Prog Answer) × (v ≡ (run at m w).1)

after_window : (b : Buffers) (w : List ℕ) (a : Answer) → (register_after b w a).window ≡ w
unfolding register_after
after_window b w (Refused refusal) = refl
after_window b w NotLoaded = refl
after_window b w (Done v r) = refl

unchanged : (at : ℕ) (w : List ℕ) → RunLeaves at w w
unfolding run
unchanged at w = (ret (Refused NotACro), refl)

settled : (at : ℕ) (b : Buffers) (m : Prog Answer) → RunLeaves at b.window (outcome_of b (run at m b.window)).left.window
unfolding outcome_of
settled at b m = (m, after_window b (run at m b.window).1 (run at m b.window).0)

chained
    : (at : ℕ) (b : Buffers) (g r : Bool) (m : Prog Answer) → RunLeaves at b.window (refusal_order g r b (outcome_of b (run at m b.window))).left.window
chained at b true true m = settled at b m
chained at b true false m = unchanged at b.window
chained at b false r m = unchanged at b.window

outcome_ran : (call : ℕ → ℕ → Register → Prog Answer) (at : ℕ) (b : Buffers) → RunLeaves at b.window (call_outcome call at b).left.window
unfolding call_outcome
outcome_ran call at b =
    chained at b (good_window at b.window) (is_register b.records b.names b.missing)
    (call (length b.records) (length b.names) (lent_register b))

-- the program of a call, on the lent register
unfoldable pub program : Call → ℕ → ℕ → Register → Prog Answer
program (Initialize base size) records names r = calls.initialize base size records names r
program (Load l auto level) records names r = calls.load l (not (eqb auto 0)) level records names r
program (Unload base) records names r = calls.unload base r

pub given-program : (c : Call) (at : ℕ) (b : Buffers) → given c at b ≡ call_outcome (program c) at b
unfolding given program call_outcome initialize_outcome load_outcome unload_outcome
given-program (Initialize base size) at b = refl
given-program (Load l auto level) at b = refl
given-program (Unload base) at b = refl

pub given_ran : (c : Call) (at : ℕ) (b : Buffers) → RunLeaves at b.window (given c at b).left.window
given_ran c at b = rw (given-program c at b) (outcome_ran (program c) at b)

pub given-length : (c : Call) (at : ℕ) (b : Buffers) → length (given c at b).left.window ≡ length b.window
given-length c at b = let g = given_ran c at b in rw g.1 (length_run at g.0 b.window)

pub given_valid : (c : Call) (at : ℕ) (b : Buffers) → WordArguments c → Valid b → AreBytes b → Valid (given c at b).left × AreBytes (given c at b).left
unfolding given WordArguments
given_valid (Initialize base size) at b w v t = let g = initialize_valid b v t base size at w.0 w.1 in (g.0, g.1)
given_valid (Load l auto level) at b w v t = let g = load_valid b v t l auto level at w.0 w.1 in (g.0, g.1)
given_valid (Unload base) at b w v t = let g = unload_valid b v t base at in (g.0, g.1)
