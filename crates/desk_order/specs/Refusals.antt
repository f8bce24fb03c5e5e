-- What a refused sending or turn leaves: "one that meets them changes nothing", "each without other changes".
use Rattle.std.specs.Prelude.{if◌then◌else◌, ℕ, ◌≤◌, ◌≡◌, List, Bool, ◌||◌, length, ltb, Option, Some, None}
use Rattle.std.proofs.Math.Path.{refl}
use Rattle.std.proofs.Math.Bool.{true, false}
use Rattle.std.proofs.Common.{arith}
use Rattle.window.specs.Memory.{good_window}
use Rattle.window.specs.Access.{run}
use Rattle.register.specs.Decode.{is_register}
use Rattle.linker_spec.specs.declared.call.Call.{Call}
use Rattle.linker_spec.specs.Calls.{Answer, NotLoaded, Done, number, Refused}
use Rattle.linker_spec.specs.Outcome.{Buffers, refusal_order, outcome_of, call_outcome}
use Rattle.linker_spec.specs.Refusals.{lent_register}
use Rattle.linker_spec.specs.declared.refusal.Refusal.TheVariants.{BadWindow, NoRegister}
use Rattle.linker_spec.specs.Refusal.{refusal_number, refusal_from_1}
use Rattle.history.specs.Sessions.{given}
use Rattle.history.specs.Windows.{program, given-program}
use Rattle.desk_spec.specs.declared.place.Change.TheVariants.{Sent}
use Rattle.desk_spec.specs.declared.command.Command.{Command}
use Rattle.desk_spec.specs.declared.command.Command.TheVariants.{Elsewhere, Acknowledged, Unknown}
use Rattle.desk_spec.specs.Desk.{place_of, place_at, no_room_for, oldest, changed}
use Rattle.desk_spec.specs.Bytes.{desk_length, desk_of, with_desk}
use Rattle.desk_spec.specs.Command.{id_at, command_at, error_reply}
use Rattle.desk_spec.specs.Outcome.{send_outcome, Handled, handled, reply, answered, handle_command, handle, TurnOutcome, idle, turn_at, serve, turn_outcome}

-- 8: "It refuses, when sent, a ninth caller or a seventeenth buffer"
module _ (caller buffer : ℕ) (bytes : List ℕ) where
  abbrev sent_unless : Bool → ℕ × ℕ × List ℕ
  sent_unless refused =
      if refused then (8, 0, bytes) else (0, 0, with_desk (changed (Sent (place_of caller (desk_of bytes).places) caller buffer) (desk_of bytes)) bytes)

  pub keeps_8 : (send_outcome caller buffer bytes).0 ≡ 8 → (send_outcome caller buffer bytes).2 ≡ bytes
  unfolding send_outcome
  keeps_8 = go (ltb (length bytes) desk_length || no_room_for caller (desk_of bytes).places)
    where
      go : (refused : Bool) → (sent_unless refused).0 ≡ 8 → (sent_unless refused).2 ≡ bytes
      go true e = refl
      go false e = absurd (omega arith)

  -- beside either number
  pub value_0 : (send_outcome caller buffer bytes).1 ≡ 0
  unfolding send_outcome
  value_0 = go (ltb (length bytes) desk_length || no_room_for caller (desk_of bytes).places)
    where
      go : (refused : Bool) → (sent_unless refused).1 ≡ 0
      go true = refl
      go false = refl

-- no call of the linker gives 9

number_fits : (a : Answer) → number a ≤ 5
unfolding number
number_fits (Refused refusal) = (refusal_from_1 refusal).1
number_fits NotLoaded = omega arith
number_fits (Done v r) = omega arith

ordered_fits : (g v : Bool) (b : Buffers) (x : Answer × List ℕ) → (refusal_order g v b (outcome_of b x)).number ≤ 5
unfolding outcome_of
ordered_fits false v b x = number_fits (Refused BadWindow)
ordered_fits true false b x = number_fits (Refused NoRegister)
ordered_fits true true b (a, w) = number_fits a

given-fits : (c : Call) (at : ℕ) (b : Buffers) → (given c at b).number ≤ 5
unfolding call_outcome
given-fits c at b =
    rw (given-program c at b)
    (ordered_fits (good_window at b.window) (is_register b.records b.names b.missing) b
    (run at (program c (length b.records) (length b.names) (lent_register b)) b.window))

-- an initialize or load with another address: "answered with the same error word"
abbrev pub elsewhere : (at p : ℕ) → Buffers → Handled
elsewhere at p b = handled 9 0 1 (0, 0) (reply at p (error_reply (id_at at b.window p)) b)

module _ (at : ℕ) (b : Buffers) where
  command_9
      : (c : Command) (id p : ℕ) → (handle_command c id at p b).number ≡ 9
      → handle_command c id at p b ≡ handled 9 0 1 (0, 0) (reply at p (error_reply id) b)
  unfolding handle_command answered
  command_9 (Command.Call c) id p e = let l = given-fits c at b in absurd (omega arith)
  command_9 Elsewhere id p e = refl
  command_9 Acknowledged id p e = absurd (omega arith)
  command_9 Unknown id p e = absurd (omega arith)

  command_2 : (c : Command) (id p : ℕ) → (handle_command c id at p b).served ≡ 2 → (handle_command c id at p b).left ≡ b
  unfolding handle_command answered
  command_2 (Command.Call c) id p e = absurd (omega arith)
  command_2 Elsewhere id p e = absurd (omega arith)
  command_2 Acknowledged id p e = absurd (omega arith)
  command_2 Unknown id p e = refl

  module _ (bytes : List ℕ) where
    -- 3, whatever the register and the desk; then 4
    pub keeps_3 : good_window at b.window ≡ false → turn_outcome at bytes b ≡ idle 3 bytes b
    unfolding turn_outcome number
    keeps_3 g = rw g

    pub keeps_4
        : good_window at b.window ≡ true → is_register b.records b.names b.missing ≡ false
        → turn_outcome at bytes b ≡ idle 4 bytes b
    unfolding turn_outcome number
    keeps_4 g r = rw (g, r)

    serve_9 : (t : Option ℕ) → (serve t at bytes b).did.number ≡ 9 → (serve t at bytes b).did ≡ elsewhere at (serve t at bytes b).buffer b
    unfolding serve handle
    serve_9 None e = absurd (omega arith)
    serve_9 (Some i) e =
        let p = oldest (place_at (desk_of bytes).places i) in
        command_9 (command_at at b.window p) (id_at at b.window p) p e

    serve_2 : (t : Option ℕ) → (serve t at bytes b).did.served ≡ 2 → (serve t at bytes b).did.left ≡ b
    unfolding serve handle
    serve_2 None e = refl
    serve_2 (Some i) e =
        let p = oldest (place_at (desk_of bytes).places i) in
        command_2 (command_at at b.window p) (id_at at b.window p) p e

    abbrev tested : (g r : Bool) → TurnOutcome
    tested g r = if g then (if r then serve (turn_at bytes) at bytes b else idle (refusal_number NoRegister) bytes b) else idle (refusal_number BadWindow) bytes b

    -- 9: no call is made, and of all that is lent only the reply's words change
    pub keeps_9 : (turn_outcome at bytes b).did.number ≡ 9 → (turn_outcome at bytes b).did ≡ elsewhere at (turn_outcome at bytes b).buffer b
    unfolding turn_outcome number
    keeps_9 = go (good_window at b.window) (is_register b.records b.names b.missing)
      where
        go : (g r : Bool) → (tested g r).did.number ≡ 9 → (tested g r).did ≡ elsewhere at (tested g r).buffer b
        go true true e = serve_9 (turn_at bytes) e
        go true false e = absurd (omega arith)
        go false r e = absurd (omega arith)

    -- "An id outside 1 to 9 uses its turn and writes nothing."
    pub unknown_writes_nothing : (turn_outcome at bytes b).did.served ≡ 2 → (turn_outcome at bytes b).did.left ≡ b
    unfolding turn_outcome
    unknown_writes_nothing = go (good_window at b.window) (is_register b.records b.names b.missing)
      where
        go : (g r : Bool) → (tested g r).did.served ≡ 2 → (tested g r).did.left ≡ b
        go true true e = serve_2 (turn_at bytes) e
        go true false e = refl
        go false r e = refl
