-- The calls that turns make: their arguments are 32-bit numbers, they answer neither 3 nor 4, and they gave what the definition gives.
use Rattle.std.specs.Prelude.{if◌then◌else◌, ℕ, ◌*◌, ◌%◌, ◌^◌, ◌<◌, ◌≡◌, List, [], ◌∷◌, Bool, not, ◌||◌, ◌&&◌, Option, Some, None}
use Rattle.std.proofs.Math.Path.{refl, ap}
use Rattle.std.proofs.Common.{sym, ◌∙◌, subst}
use Rattle.std.proofs.Math.Bool.{true, false}
use native.Mathlib.Omega.{arith}
use Rattle.std.proofs.Math.Dec.{eqb}
use Rattle.window.specs.Memory.{◌⊕◌, good_window, word_at}
use Rattle.window.specs.Access.{run}
use Rattle.window.specs.Small.{Bytes, word_at-small}
use Rattle.layout.specs.Header.{magic}
use Rattle.register.specs.Decode.{is_register}
use Rattle.linker_spec.specs.declared.call.Call.{Call}
use Rattle.linker_spec.specs.declared.call.Call.TheVariants.{Initialize, Load, Unload}
use Rattle.linker_spec.specs.Calls.{number, unload}
use Rattle.linker_spec.specs.Rebase.{is_magic, move_header, move_segments}
use Rattle.linker_spec.specs.Outcome.{Buffers, outcome_of, unload_outcome, load_arguments}
use Rattle.linker_spec.specs.Refusals.{lent_register}
use Rattle.linker_spec.proofs.Refusals.{answers}
use Rattle.linker_spec.specs.AnyResult.{gives_run}
use Rattle.linker_spec.proofs.Counts.{unload-0}
use Rattle.linker_spec.specs.Numbers.{entry_number, loaded_module, initialized_module, fits_in}
use Rattle.linker_spec.proofs.Numbers.{load-number, initialize-number}
use Rattle.linker_spec.specs.Valid.{Valid}
use Rattle.linker_spec.specs.declared.refusal.Refusal.TheVariants.{BadWindow, NoRegister}
use Rattle.linker_spec.specs.Refusal.{refusal_number}
use Rattle.history.specs.Below.{Each}
use Rattle.history.specs.Steps.Asking.{true_false}
use Rattle.history.specs.Sessions.{given, CallRecord, unfit, own, WordArguments}
use Rattle.history.specs.Sessions.Lists.{each_append}
use Rattle.history.specs.Outcomes.{Gave, Made, Follows}
use Rattle.desk_spec.specs.declared.command.Command.{Command}
use Rattle.desk_spec.specs.declared.command.Command.TheVariants.{Elsewhere, Acknowledged, Unknown}
use Rattle.desk_spec.specs.Command.{buffer_word, in_place, initialize_asked, load_asked, command_of, id_at, command_at}
use Rattle.desk_history.specs.Sessions.{TurnRecord, fit, buffer_of, calls_of, calls}
use Rattle.desk_history.specs.Turns.{command_in, TurnDid, idles, replies, makes, turn-did}

-- 3 or 4
abbrev refuses : ℕ → Bool
refuses n = eqb n (refusal_number BadWindow) || eqb n (refusal_number NoRegister)

-- a call lent a window and a register that keep their rules answers neither
module _ (at : ℕ) (b : Buffers) (g : good_window at b.window ≡ true) (v : Valid b) where
  unload-number : (base : ℕ) → (unload_outcome base at b).number ≡ 0
  unfolding unload_outcome outcome_of
  unload-number base =
      let m = unload base (lent_register b) in
      ap (λ o. o.number) (answers (λ records names. unload base) at b g v {a = (run at m b.window).0} {w = (run at m b.window).1} refl)
      ∙ gives_run (λ a. number a ≡ 0) at m b.window (unload-0 base (lent_register b))

  given-fit : (c : Call) → refuses (given c at b).number ≡ false
  unfolding given number
  given-fit (Initialize base size) =
      rw (initialize-number at b base size, g, v)
      (go (is_magic (word_at at b.window (base ⊕ magic))) (fits_in at b (initialized_module at base size b.window)))
    where
      go : (m f : Bool) → refuses (if m then (if f then 0 else 5) else 1) ≡ false
      go true true = refl
      go true false = refl
      go false f = refl
  given-fit (Load l auto level) =
      rw (load-number at b l auto level, g, v)
      (go (is_magic (word_at at b.window (l.base ⊕ magic))) (run at (move_segments l) (run at (move_header true l.base) b.window).1).0
      (fits_in at b (loaded_module at l (not (eqb auto 0)) b.window)))
    where
      go : (m : Bool) (x : Option ℕ) (f : Bool) → refuses (if m then entry_number x f else 1) ≡ false
      go true None f = refl
      go true (Some old) true = refl
      go true (Some old) false = refl
      go false x f = refl
  given-fit (Unload base) = rw (unload-number base) refl

fit-lent : (t : TurnRecord) → fit t ≡ true → (good_window t.at t.before.window ≡ true) × Valid t.before
unfolding fit
fit-lent t = go (good_window t.at t.before.window) (is_register t.before.records t.before.names t.before.missing)
  where
    go : (g v : Bool) → (g && v) ≡ true → (g ≡ true) × (v ≡ true)
    go true true e = (refl, refl)
    go true false e = absurd (true_false (sym e))
    go false v e = absurd (true_false (sym e))

-- so every call of a session counts as its own
pub calls-fit : (ts : List TurnRecord) → Each (λ r. unfit r ≡ false) (calls ts)
unfolding calls Each unfit
calls-fit [] = tt
calls-fit (t ∷ ts) = each_append (λ r. unfit r ≡ false) (calls_of t) (calls ts) (go (turn-did t)) (calls-fit ts)
  where
    go : TurnDid t → Each (λ r. unfit r ≡ false) (calls_of t)
    go (idles n e) = rw n tt
    go (replies i s n words l e) = rw n tt
    go (makes f i s c m n words l e) = let p = fit-lent t f in rw n (given-fit t.at t.before p.0 p.1 c, tt)

pub own-all : (cs : List CallRecord) → Each (λ r. unfit r ≡ false) cs → own cs ≡ cs
unfolding own Each
own-all [] h = refl
own-all (r ∷ cs) h = rw h.0 (ap (λ ds. r ∷ ds) (own-all cs h.1))

pub desk_made : (ts : List TurnRecord) → Made Follows (calls ts)
unfolding calls Each
desk_made [] = tt
desk_made (t ∷ ts) = each_append (Gave Follows) (calls_of t) (calls ts) (go (turn-did t)) (desk_made ts)
  where
    go : TurnDid t → Made Follows (calls_of t)
    go (idles n e) = rw n tt
    go (replies i s n words l e) = rw n tt
    go (makes f i s c m n words l e) = rw n (refl, tt)

-- what a command's words ask for has 32-bit arguments
abbrev WordCommand : Command → Type 0
WordCommand (Command.Call c) = WordArguments c
WordCommand Elsewhere = Unit {0}
WordCommand Acknowledged = Unit {0}
WordCommand Unknown = Unit {0}

asked_if : (b : Bool) (c d : Command) → WordCommand c → WordCommand d → WordCommand (if b then c else d)
asked_if true c d h g = h
asked_if false c d h g = g

module _ (word : ℕ → ℕ) (h : (i : ℕ) → word i < 2 ^ 32) where
  initialize-asked : WordCommand (initialize_asked word)
  unfolding initialize_asked WordArguments
  initialize-asked = asked_if (in_place (word 1) (word 3)) (Command.Call (Initialize (word 1) (word 2))) Elsewhere (h 1, h 2) tt

  load-asked : WordCommand (load_asked word)
  unfolding load_asked WordArguments
  load-asked =
      asked_if (in_place (word 1) (word 2))
      (Command.Call (Load (load_arguments (word 1) (word 3) (word 4) (word 6) (word 7) (word 8)) (word 9 % 256) (word 10)))
      Elsewhere
      (h 1, h 3, h 4, h 6, h 7, h 8, omega arith, h 10)
      tt

  command_asked : (id : ℕ) → WordCommand (command_of id word)
  unfolding command_of WordArguments
  command_asked id =
      asked_if (eqb id 1) _ _ initialize-asked
      (asked_if (eqb id 4 || eqb id 9) _ _ load-asked
      (asked_if (eqb id 5) _ _ (h 1)
      (asked_if (eqb id 2 || (eqb id 3 || (eqb id 6 || (eqb id 7 || eqb id 8)))) _ _ tt tt)))

pub word_arguments : (t : TurnRecord) → Bytes t.before.window → (c : Call) → command_in t ≡ Command.Call c → WordArguments c
unfolding command_at buffer_word
word_arguments t b c e =
    subst WordCommand e (command_asked (buffer_word t.at t.before.window (buffer_of t)) (λ i. word_at-small t.at t.before.window (buffer_of t ⊕ 4 * i) b) (id_at t.at t.before.window (buffer_of t)))
