-- What a command buffer's handling is, by its command.
use Prim.Native.Nat.{ℕ}
use mathlib.Core.Path.{◌≡◌, sym, ap, ◌∙◌}
use mathlib.Core.List.{List}
use Rattle.linker_spec.specs.declared.call.Call.{Call}
use Rattle.linker_spec.specs.Outcome.{Buffers, Outcome, buffers}
use Rattle.linker_spec.specs.Touches.{touches_of}
use Rattle.history.specs.Sessions.{given}
use Rattle.desk_spec.specs.declared.command.Command.{Command}
use Rattle.desk_spec.specs.declared.command.Command.TheVariants.{Elsewhere, Acknowledged, Unknown}
use Rattle.desk_spec.specs.Command.{id_at, command_at, done_reply, error_reply, reply_to, replied}
use Rattle.desk_spec.specs.Outcome.{handled, reply, answered, handle_command, handle}

module _ (at p : ℕ) (b : Buffers) {id : ℕ} {command : Command} (is-id : id ≡ id_at at b.window p) (is-command : command ≡ command_at at b.window p) where
  by_command : {c : Command} → command ≡ c → handle_command c id at p b ≡ handle at p b
  unfolding handle
  by_command e = ap (λ x. handle_command x id at p b) (sym e ∙ is-command) ∙ ap (λ n. handle_command (command_at at b.window p) n at p b) is-id

  pub handled-call
      : {call : Call} → command ≡ Command.Call call → {o : Outcome} {touch : ℕ × ℕ} → (o ≡ given call at b) × (touch ≡ touches_of call at b)
      → {w : List ℕ} → w ≡ replied at o.left.window p 0 (reply_to call id o.number o.value)
      → handled o.number o.value 1 touch (buffers w o.left.records o.left.names o.left.missing) ≡ handle at p b
  unfolding handle_command answered reply
  handled-call {call} e {o} {touch} made h =
      ap (λ w. handled o.number o.value 1 touch (buffers w o.left.records o.left.names o.left.missing)) h
      ∙ ap (λ (x : Outcome × (ℕ × ℕ)). answered call id at p x.0 x.1) (ap (λ x. (x, touch)) made.0 ∙ ap (λ t. (given call at b, t)) made.1)
      ∙ by_command e

  pub handled-elsewhere
      : {value touched first : ℕ} → (value ≡ 0) × (touched ≡ 0) × (first ≡ 0) → command ≡ Elsewhere → {w : List ℕ} → w ≡ replied at b.window p 0 (error_reply id)
      → handled 9 value 1 (touched, first) (buffers w b.records b.names b.missing) ≡ handle at p b
  unfolding handle_command reply
  handled-elsewhere z e h = rw (z.0, z.1, z.2, h) (by_command e)

  pub handled_acknowledged
      : {value touched first : ℕ} → (value ≡ 0) × (touched ≡ 0) × (first ≡ 0) → command ≡ Acknowledged → {w : List ℕ} → w ≡ replied at b.window p 0 (done_reply id)
      → handled 0 value 1 (touched, first) (buffers w b.records b.names b.missing) ≡ handle at p b
  unfolding handle_command reply
  handled_acknowledged z e h = rw (z.0, z.1, z.2, h) (by_command e)

  pub handled_unknown
      : {value touched first : ℕ} → (value ≡ 0) × (touched ≡ 0) × (first ≡ 0) → command ≡ Unknown → handled 0 value 2 (touched, first) b ≡ handle at p b
  unfolding handle_command
  handled_unknown z e = rw (z.0, z.1, z.2) (by_command e)
