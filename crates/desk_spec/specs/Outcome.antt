-- What the desk's two calls leave, for all lent bytes.
use Rattle.std.specs.Prelude.{if◌then◌else◌, ℕ, List, ◌||◌, length, ltb, Option, Some, None}
use Rattle.window.specs.Memory.{good_window}
use Rattle.register.specs.Decode.{is_register}
use Rattle.linker_spec.specs.declared.call.Call.{Call}
use Rattle.linker_spec.specs.Calls.{number}
use Rattle.linker_spec.specs.Outcome.{Buffers, Outcome, buffers}
use Rattle.linker_spec.specs.Touches.{touches_of}
use Rattle.linker_spec.specs.declared.refusal.Refusal.TheVariants.{BadWindow, NoRegister}
use Rattle.linker_spec.specs.Refusal.{refusal_number}
use Rattle.history.specs.Sessions.{given}
use Rattle.desk_spec.specs.declared.place.Change.TheVariants.{Sent, Served}
use Rattle.desk_spec.specs.declared.command.Command.{Command}
use Rattle.desk_spec.specs.declared.command.Command.TheVariants.{Elsewhere, Acknowledged, Unknown}
use Rattle.desk_spec.specs.Desk.{place_of, place_at, no_room_for, changed, oldest, turn_of}
use Rattle.desk_spec.specs.Bytes.{desk_length, desk_of, with_desk}
use Rattle.desk_spec.specs.Command.{id_at, command_at, done_reply, error_reply, reply_to, replied}

-- `send`: the number, the value and the desk's bytes. "It refuses, when sent, a ninth caller or a seventeenth buffer (8) .. without other
-- changes", and anything at fewer bytes than a desk has.
unfoldable pub send_outcome : (caller buffer : ℕ) → List ℕ → ℕ × ℕ × List ℕ
send_outcome caller buffer bytes =
    let places = (desk_of bytes).places in
    if ltb (length bytes) desk_length || no_room_for caller places then (8, 0, bytes) else
    (0, 0, with_desk (changed (Sent (place_of caller places) caller buffer) (desk_of bytes)) bytes)

-- what a served command buffer leaves: the number, value and touch of its call; 1 where it was answered, 2 where its id is outside 1 to 9
pub record Handled : Type 0 where
  pub number : ℕ
  pub value : ℕ
  pub served : ℕ
  pub touch : ℕ × ℕ
  pub left : Buffers

abbrev pub handled : (number value served : ℕ) → ℕ × ℕ → Buffers → Handled
handled number value served touch left = record { number = number; value = value; served = served; touch = touch; left = left }

-- a reply into the window
unfoldable pub reply : (at p : ℕ) → List ℕ → Buffers → Buffers
reply at p words b = buffers (replied at b.window p 0 words) b.records b.names b.missing

-- a call's outcome, and the reply over whatever it left
unfoldable pub answered : Call → (id at p : ℕ) → Outcome → ℕ × ℕ → Handled
answered c id at p o touch = handled o.number o.value 1 touch (reply at p (reply_to c id o.number o.value) o.left)

unfoldable pub handle_command : Command → (id at p : ℕ) → Buffers → Handled
handle_command (Command.Call c) id at p b = answered c id at p (given c at b) (touches_of c at b)
handle_command Elsewhere id at p b = handled 9 0 1 (0, 0) (reply at p (error_reply id) b)
handle_command Acknowledged id at p b = handled 0 0 1 (0, 0) (reply at p (done_reply id) b)
handle_command Unknown id at p b = handled 0 0 2 (0, 0) b

-- the command buffer at p: its words are read in its turn, before anything changes
unfoldable pub handle : (at p : ℕ) → Buffers → Handled
handle at p b = handle_command (command_at at b.window p) (id_at at b.window p) at p b

-- `turn`: what was handled, whose it was, and the desk's bytes
pub record TurnOutcome : Type 0 where
  pub did : Handled
  pub caller : ℕ
  pub buffer : ℕ
  pub desk : List ℕ

abbrev pub turn_outcome_of : Handled → (caller buffer : ℕ) → List ℕ → TurnOutcome
turn_outcome_of did caller buffer desk = record { did = did; caller = caller; buffer = buffer; desk = desk }

-- nobody was served, and nothing changes
abbrev pub idle : ℕ → List ℕ → Buffers → TurnOutcome
idle number bytes b = turn_outcome_of (handled number 0 0 (0, 0) b) 0 0 bytes

unfoldable pub turn_at : List ℕ → Option ℕ
turn_at bytes = if ltb (length bytes) desk_length then None else turn_of (desk_of bytes)

unfoldable pub serve : Option ℕ → (at : ℕ) → List ℕ → Buffers → TurnOutcome
serve None at bytes b = idle 0 bytes b
serve (Some i) at bytes b =
    let p = place_at (desk_of bytes).places i in
    turn_outcome_of (handle at (oldest p) b) p.caller (oldest p) (with_desk (changed (Served i) (desk_of bytes)) bytes)

-- "Every turn first tests 3 and 4; one that meets them changes nothing."
unfoldable pub turn_outcome : (at : ℕ) → List ℕ → Buffers → TurnOutcome
turn_outcome at bytes b =
    if good_window at b.window
    then (if is_register b.records b.names b.missing then serve (turn_at bytes) at bytes b else idle (refusal_number NoRegister) bytes b)
    else idle (refusal_number BadWindow) bytes b
