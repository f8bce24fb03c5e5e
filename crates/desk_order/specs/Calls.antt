-- The desk's two exported calls, one after another, on any lent bytes; and what a caller sees of their results.
use Rattle.std.specs.Prelude.{if◌then◌else◌, ℕ, suc, ◌^◌, ◌<◌, ◌≡◌, List, [], ◌∷◌, ◌++◌, Bool, true, not, ◌&&◌, eqb}
use Rattle.window.specs.Memory.{good_window}
use Rattle.register.specs.Decode.{is_register}
use Rattle.register.specs.Buffers.{Below}
use Rattle.linker_spec.specs.Outcome.{Buffers}
use Rattle.history.specs.Below.{Each}
use Rattle.desk_spec.specs.Desk.{Place, Desk}
use Rattle.desk_spec.specs.Outcome.{TurnOutcome, send_outcome, turn_outcome}
use Rattle.desk_order.specs.Ops.{Op, sends, turns}

-- a turn is lent a window and a register, which others may have changed since the last one
pub data DeskCall : Type 0 where
  send : (caller buffer : ℕ) → DeskCall
  turn : (at : ℕ) (lent : Buffers) → DeskCall

-- the desk's bytes after them
unfoldable pub bytes_after : DeskCall → List ℕ → List ℕ
bytes_after (send caller buffer) bytes = (send_outcome caller buffer bytes).2
bytes_after (turn at lent) bytes = (turn_outcome at bytes lent).desk

unfoldable pub after_calls : List DeskCall → List ℕ → List ℕ
after_calls [] bytes = bytes
after_calls (call ∷ calls) bytes = after_calls calls (bytes_after call bytes)

-- "turns free of 3 and 4"
unfoldable pub free : ℕ → Buffers → Bool
free at lent = good_window at lent.window && is_register lent.records lent.names lent.missing

unfoldable pub free_turns : List DeskCall → ℕ
free_turns [] = 0
free_turns (send caller buffer ∷ calls) = free_turns calls
free_turns (turn at lent ∷ calls) = if free at lent then suc (free_turns calls) else free_turns calls

-- what is done at the desk: a turn that is not free does nothing
unfoldable pub op_of : DeskCall → List Op
op_of (send caller buffer) = sends caller buffer ∷ []
op_of (turn at lent) = if free at lent then turns ∷ [] else []

unfoldable pub ops_of : List DeskCall → List Op
ops_of [] = []
ops_of (call ∷ calls) = op_of call ++ ops_of calls

-- callers and buffers are words
unfoldable pub WordCall : DeskCall → Type 0
WordCall (send caller buffer) = (caller < 2 ^ 32) × (buffer < 2 ^ 32)
WordCall (turn at lent) = Unit {0}

abbrev pub WordCalls : List DeskCall → Type 0
WordCalls calls = Each WordCall calls

abbrev pub WordPlace : Place → Type 0
WordPlace p = (p.caller < 2 ^ 32) × Below (2 ^ 32) p.waiting

abbrev pub Words : Desk → Type 0
Words d = Each WordPlace d.places

-- what `send` says it took of a caller
unfoldable pub took : ℕ → DeskCall → List ℕ → List ℕ
took c (send caller buffer) bytes = if eqb (send_outcome caller buffer bytes).0 0 && eqb caller c then buffer ∷ [] else []
took c (turn at lent) bytes = []

-- what `turn` says it served to a caller
abbrev pub gave_in : ℕ → TurnOutcome → List ℕ
gave_in c o = if not (eqb o.did.served 0) && eqb o.caller c then o.buffer ∷ [] else []

unfoldable pub gave : ℕ → DeskCall → List ℕ → List ℕ
gave c (send caller buffer) bytes = []
gave c (turn at lent) bytes = gave_in c (turn_outcome at bytes lent)

unfoldable pub taken_from : ℕ → List DeskCall → List ℕ → List ℕ
taken_from c [] bytes = []
taken_from c (call ∷ calls) bytes = took c call bytes ++ taken_from c calls (bytes_after call bytes)

unfoldable pub served_to : ℕ → List DeskCall → List ℕ → List ℕ
served_to c [] bytes = []
served_to c (call ∷ calls) bytes = gave c call bytes ++ served_to c calls (bytes_after call bytes)

-- among these calls, with fewer than n free turns before it, a free turn serves the caller that buffer; until then the caller was served
-- the earlier ones and no more
pub record TurnWithin (n caller : ℕ) (earlier : List ℕ) (buffer : ℕ) (calls : List DeskCall) (bytes : List ℕ) : Type 0 where
  pub before : List DeskCall
  pub at : ℕ
  pub lent : Buffers
  pub rest : List DeskCall
  pub split : calls ≡ before ++ turn at lent ∷ rest
  pub its_free : free at lent ≡ true
  pub soon : free_turns before < n
  pub until_then : served_to caller before bytes ≡ earlier
  pub serves : (turn_outcome at (after_calls before bytes) lent).did.served ≡ 0 → ⊥
  pub its_caller : (turn_outcome at (after_calls before bytes) lent).caller ≡ caller
  pub its_buffer : (turn_outcome at (after_calls before bytes) lent).buffer ≡ buffer
