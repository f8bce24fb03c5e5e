-- What a turn leaves: its call's outcome with the reply over it, or what it was lent with a reply over it.
use Rattle.std.specs.Prelude.{if◌then◌else◌, ℕ, ◌≤◌, ◌%◌, ◌^◌, ◌<◌, ◌≡◌, ◌≢◌, List, [], ◌∷◌, Bool, ◌&&◌, length, Option, Some, None}
use Rattle.std.proofs.Math.Path.{refl, ap, subst}
use Rattle.std.proofs.Common.{sym, ◌∙◌, arith}
use Rattle.std.proofs.Math.Bool.{true, false}
use Rattle.std.proofs.Math.Decide.{dec_le}
use Rattle.window.specs.Memory.{◌⊕◌, place, good_window}
use Rattle.register.specs.Decode.{is_register}
use Rattle.linker_spec.specs.declared.call.Call.{Call}
use Rattle.linker_spec.specs.Outcome.{Buffers}
use Rattle.linker_spec.specs.Touches.{touches_of}
use Rattle.linker_spec.specs.declared.refusal.Refusal.TheVariants.{BadWindow, NoRegister}
use Rattle.linker_spec.specs.Refusal.{refusal_number}
use Rattle.history.specs.Sessions.{given, CallRecord, call_record, after, loaded_modules, Areas, Between}
use Rattle.history.specs.Steps.Asking.{true_false}
use Rattle.desk_spec.specs.declared.command.Command.{Command}
use Rattle.desk_spec.specs.declared.command.Command.TheVariants.{Elsewhere, Acknowledged, Unknown}
use Rattle.desk_spec.specs.Command.{id_at, command_at, done_reply, error_reply, reply_to}
use Rattle.desk_spec.specs.Outcome.{Handled, handled, TurnOutcome, reply, answered, handle_command, handle, idle, turn_at, serve, turn_outcome}
use Rattle.desk_history.specs.Sessions.{TurnRecord, left, fit, buffer_of, call_of, call_at, calls_of, BufferApart}
use Rattle.desk_history.specs.Replies.{reply-register, reply-length, reply-off, few_words}

module _ (t : TurnRecord) where
  abbrev outcome : TurnOutcome
  outcome = turn_outcome t.at t.desk t.before

  -- the chain of its tests
  abbrev chained : (good_window is_register : Bool) → TurnOutcome
  chained g v =
      if g then (if v then serve (turn_at t.desk) t.at t.desk t.before else idle (refusal_number NoRegister) t.desk t.before)
      else idle (refusal_number BadWindow) t.desk t.before

  -- what it did, the command in its buffer, and the id there
  abbrev pub did : Handled
  did = outcome.did

  abbrev pub command_in : Command
  command_in = command_at t.at t.before.window (buffer_of t)

  abbrev pub id_in : ℕ
  id_in = id_at t.at t.before.window (buffer_of t)

  -- "Every turn first tests 3 and 4; one that meets them changes nothing."
  pub unfit_unchanged : fit t ≡ false → left t ≡ t.before
  unfolding fit turn_outcome
  unfit_unchanged = go (good_window t.at t.before.window) (is_register t.before.records t.before.names t.before.missing)
    where
      go : (g v : Bool) → (g && v) ≡ false → (chained g v).did.left ≡ t.before
      go true true e = absurd (true_false e)
      go true false e = refl
      go false v e = refl

  fit-served : fit t ≡ true → outcome ≡ serve (turn_at t.desk) t.at t.desk t.before
  unfolding fit turn_outcome
  fit-served = go (good_window t.at t.before.window) (is_register t.before.records t.before.names t.before.missing)
    where
      go : (g v : Bool) → (g && v) ≡ true → chained g v ≡ serve (turn_at t.desk) t.at t.desk t.before
      go true true e = refl
      go true false e = absurd (true_false (sym e))
      go false v e = absurd (true_false (sym e))

  module _ (f : fit t ≡ true) where
    served : (s : Option ℕ) → turn_at t.desk ≡ s → outcome ≡ serve s t.at t.desk t.before
    served s e = fit-served f ∙ ap (λ x. serve x t.at t.desk t.before) e

    pub nobody_served : turn_at t.desk ≡ None → left t ≡ t.before
    unfolding serve
    nobody_served n = ap (λ o. o.did.left) (served None n)

    module _ (i : ℕ) (s : turn_at t.desk ≡ Some i) where
      -- the served buffer is handled
      buffer_handled : did ≡ handle t.at (buffer_of t) t.before
      unfolding serve buffer_of
      buffer_handled = subst (λ o. o.did ≡ handle t.at o.buffer t.before) (sym (served (Some i) s)) refl

      command_handled : (c : Command) → command_in ≡ c → did ≡ handle_command c id_in t.at (buffer_of t) t.before
      unfolding handle
      command_handled c e = buffer_handled ∙ ap (λ x. handle_command x id_in t.at (buffer_of t) t.before) e

      -- T6: one of the linker's calls, and the reply over what it left
      pub turn-calls
          : (c : Call) → command_in ≡ Command.Call c
          → let o = given c t.at t.before in
          did ≡ handled o.number o.value 1 (touches_of c t.at t.before) (reply t.at (buffer_of t) (reply_to c id_in o.number o.value) o.left)
      unfolding handle_command answered
      turn-calls c e = command_handled (Command.Call c) e

      -- no other command makes a call
      pub turn-elsewhere : command_in ≡ Elsewhere → did ≡ handled 9 0 1 (0, 0) (reply t.at (buffer_of t) (error_reply id_in) t.before)
      unfolding handle_command
      turn-elsewhere e = command_handled Elsewhere e

      pub turn_acknowledged : command_in ≡ Acknowledged → did ≡ handled 0 0 1 (0, 0) (reply t.at (buffer_of t) (done_reply id_in) t.before)
      unfolding handle_command
      turn_acknowledged e = command_handled Acknowledged e

      pub turn_unknown : command_in ≡ Unknown → did ≡ handled 0 0 2 (0, 0) t.before
      unfolding handle_command
      turn_unknown e = command_handled Unknown e

-- what a turn did: nothing; a reply alone; or a call and a reply
pub data TurnDid (t : TurnRecord) : Type 0 where
  idles : calls_of t ≡ [] → left t ≡ t.before → TurnDid t
  replies
      : (i : ℕ) → turn_at t.desk ≡ Some i → calls_of t ≡ [] → (words : List ℕ) → length words ≤ 3
      → left t ≡ reply t.at (buffer_of t) words t.before → TurnDid t
  makes
      : fit t ≡ true → (i : ℕ) → turn_at t.desk ≡ Some i → (c : Call) → command_in t ≡ Command.Call c
      → calls_of t ≡ call_record c t.at t.before (given c t.at t.before) ∷ [] → (words : List ℕ) → length words ≤ 3
      → left t ≡ reply t.at (buffer_of t) words (given c t.at t.before).left → TurnDid t

module _ (t : TurnRecord) where
  pub unfit_makes_none : fit t ≡ false → calls_of t ≡ []
  unfolding calls_of
  unfit_makes_none f = rw f

  nobody_makes_none : fit t ≡ true → turn_at t.desk ≡ None → calls_of t ≡ []
  unfolding calls_of call_at
  nobody_makes_none f n = rw (f, n)

  command_makes : fit t ≡ true → (i : ℕ) → turn_at t.desk ≡ Some i → (c : Command) → command_in t ≡ c → calls_of t ≡ call_of c t.at t.before
  unfolding calls_of call_at
  command_makes f i s c e = rw (f, s, e)

  served-did : fit t ≡ true → (i : ℕ) → turn_at t.desk ≡ Some i → (c : Command) → command_in t ≡ c → TurnDid t
  unfolding call_of
  served-did f i s (Command.Call c) e =
      let o = given c t.at t.before in
      makes f i s c e (command_makes f i s (Command.Call c) e) (reply_to c (id_in t) o.number o.value) (few_words c (id_in t) o.number o.value)
      (ap (λ h. h.left) (turn-calls t f i s c e))
  served-did f i s Elsewhere e =
      replies i s (command_makes f i s Elsewhere e) (error_reply (id_in t)) (omega arith) (ap (λ h. h.left) (turn-elsewhere t f i s e))
  served-did f i s Acknowledged e =
      replies i s (command_makes f i s Acknowledged e) (done_reply (id_in t)) (omega arith) (ap (λ h. h.left) (turn_acknowledged t f i s e))
  served-did f i s Unknown e = idles (command_makes f i s Unknown e) (ap (λ h. h.left) (turn_unknown t f i s e))

  pub turn-did : TurnDid t
  turn-did = tested (fit t) refl (turn_at t.desk) refl
    where
      tested : (f : Bool) → fit t ≡ f → (s : Option ℕ) → turn_at t.desk ≡ s → TurnDid t
      tested false f s e = idles (unfit_makes_none f) (unfit_unchanged t f)
      tested true f None e = idles (nobody_makes_none f e) (nobody_served t f e)
      tested true f (Some i) e = served-did f i e (command_in t) refl

-- what the turn's call left, and where it made none what it was lent
unfoldable pub left_by : List CallRecord → Buffers → Buffers
left_by [] b = b
left_by (c ∷ cs) b = after c

abbrev pub called : TurnRecord → Buffers
called t = left_by (calls_of t) t.before

-- a distance above p, from p on
from_place : (p q : ℕ) → q % 2 ^ 32 ≡ p ⊕ place p q
unfolding place
from_place p q = omega arith

-- none of twelve addresses
none_of : (p q : ℕ) → ((k : ℕ) → k < 12 → q % 2 ^ 32 ≢ p ⊕ k) → 12 ≤ place p q
none_of p q h = elim (dec_le 12 (place p q)) [ yes l ↦ l | no m ↦ absurd (h (place p q) (omega arith) (from_place p q)) ]

module _ (at p : ℕ) (cs : List CallRecord) (words : List ℕ) (b : Buffers) where
  reply-between : length words ≤ 3 → ((q : ℕ) → Areas (loaded_modules cs) q → 12 ≤ place p q) → Between at cs b (reply at p words b)
  reply-between l off =
      record {
        register = reply-register at p words b;
        length_kept = reply-length at p words b;
        areas_kept = λ q a. reply-off at p words b l q (off q a);
      }

pub between-same : (at : ℕ) (cs : List CallRecord) (b : Buffers) → Between at cs b b
between-same at cs b = record { register = (refl, refl, refl); length_kept = refl; areas_kept = λ q a. refl }

-- with its reply off the areas a turn leaves there what its call left, or what it was lent
pub areas_as_called : (t : TurnRecord) (cs : List CallRecord) → BufferApart t cs → Between t.at cs (called t) (left t)
unfolding left_by BufferApart
areas_as_called t cs apart = go (turn-did t)
  where
    go : TurnDid t → Between t.at cs (called t) (left t)
    go (idles n e) = rw (n, e) (between-same t.at cs t.before)
    go (replies i s n words l e) =
        rw (n, e) (reply-between t.at (buffer_of t) cs words t.before l (λ q a. none_of (buffer_of t) q (λ k. apart i s q k a)))
    go (makes f i s c m n words l e) =
        rw (n, e)
        (reply-between t.at (buffer_of t) cs words (given c t.at t.before).left l (λ q a. none_of (buffer_of t) q (λ k. apart i s q k a)))
