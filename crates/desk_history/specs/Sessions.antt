-- A session through the desk: turns, what each was lent, and the linker's calls that they made. As in history, the last one comes first.
use Rattle.std.specs.Prelude.{if◌then◌else◌, ℕ, ◌%◌, ◌^◌, ◌<◌, ◌≡◌, ◌≢◌, List, [], ◌∷◌, ◌++◌, Bool, true, ◌&&◌, Option, Some, None}
use Rattle.window.specs.Memory.{good_window, byte_at, ◌⊕◌}
use Rattle.register.specs.Decode.{is_register}
use Rattle.linker_spec.specs.Outcome.{Buffers}
use Rattle.linker_spec.specs.Valid.{AreBytes}
use Rattle.history.specs.Sessions.{CallRecord, call_record, given, loaded_modules, Areas, Fresh, Between}
use Rattle.desk_spec.specs.declared.command.Command.{Command}
use Rattle.desk_spec.specs.declared.command.Command.TheVariants.{Elsewhere, Acknowledged, Unknown}
use Rattle.desk_spec.specs.Command.{command_at}
use Rattle.desk_spec.specs.Outcome.{turn_at, turn_outcome}

-- a turn: the window's address, the desk's bytes and the other bytes that it was lent
pub record TurnRecord : Type 0 where
  pub at : ℕ
  pub desk : List ℕ
  pub before : Buffers

-- what it left, by the contract of `turn`
abbrev pub left : TurnRecord → Buffers
left t = (turn_outcome t.at t.desk t.before).did.left

-- free of 3 and 4
unfoldable pub fit : TurnRecord → Bool
fit t = good_window t.at t.before.window && is_register t.before.records t.before.names t.before.missing

-- the command buffer that it served
unfoldable pub buffer_of : TurnRecord → ℕ
buffer_of t = (turn_outcome t.at t.desk t.before).buffer

-- the call that a command asks for, if it does, as history has it: lent what the turn was, it gave what the definition gives
unfoldable pub call_of : Command → (at : ℕ) → Buffers → List CallRecord
call_of (Command.Call c) at b = call_record c at b (given c at b) ∷ []
call_of Elsewhere at b = []
call_of Acknowledged at b = []
call_of Unknown at b = []

unfoldable pub call_at : Option ℕ → TurnRecord → List CallRecord
call_at None t = []
call_at (Some i) t = call_of (command_at t.at t.before.window (buffer_of t)) t.at t.before

unfoldable pub calls_of : TurnRecord → List CallRecord
calls_of t = if fit t then call_at (turn_at t.desk) t else []

-- the calls of a session
unfoldable pub calls : List TurnRecord → List CallRecord
calls [] = []
calls (t ∷ ts) = calls_of t ++ calls ts

-- the turns lent a window and a register that keep their rules
unfoldable pub own_turns : List TurnRecord → List TurnRecord
own_turns [] = []
own_turns (t ∷ ts) = if fit t then t ∷ own_turns ts else own_turns ts

-- "if no command buffer meets an area": the twelve bytes that its reply may take, and the areas of all that these calls loaded; addresses are the
-- same if they are so modulo 2 ^ 32
unfoldable pub BufferApart : TurnRecord → List CallRecord → Type 0
BufferApart t cs =
    (i : ℕ) → turn_at t.desk ≡ Some i → (q k : ℕ) → Areas (loaded_modules cs) q → k < 12 → q % 2 ^ 32 ≢ buffer_of t ⊕ k

module _ (at : ℕ) where
  -- what the next turn may be lent after the session's own turns: as in history, "window and register as the last left them, save window bytes
  -- outside all areas loaded so far"; the desk's bytes are free
  unfoldable pub LendsTurn : List TurnRecord → Buffers → Type 0
  LendsTurn [] b = Fresh b
  LendsTurn (t ∷ ts) b = Between at (calls (t ∷ ts)) (left t) b

  unfoldable pub NextTurn : List TurnRecord → TurnRecord → Type 0
  NextTurn ts t = fit t ≡ true → (t.at ≡ at) × LendsTurn (own_turns ts) t.before × BufferApart t (calls (t ∷ ts))

  -- a whole session through the desk
  unfoldable pub DeskSession : List TurnRecord → Type 0
  DeskSession [] = Unit {0}
  DeskSession (t ∷ ts) = AreBytes t.before × NextTurn ts t × DeskSession ts

-- the session's bytes after all its turns, replies included
unfoldable pub bytes_after_turns : List TurnRecord → ℕ → ℕ
bytes_after_turns [] q = 0
bytes_after_turns (t ∷ ts) q = if fit t then byte_at t.at (left t).window q else bytes_after_turns ts q
