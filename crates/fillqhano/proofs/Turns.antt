-- What a turn of the desk is: refused by the two tests, idle, or a command buffer's handling.
use Rattle.std.specs.Prelude.{if◌then◌else◌, Option, Some, None}
use Prim.Native.Nat.{ℕ}
use mathlib.Core.Path.{◌≡◌, sym, ap, ◌∙◌}
use mathlib.Core.List.{List}
use mathlib.Core.Bool.{Bool, true, false}
use Rattle.window.specs.Memory.{good_window}
use Rattle.register.specs.Decode.{is_register}
use Rattle.linker_spec.specs.Outcome.{Buffers}
use Rattle.linker_spec.specs.declared.refusal.Refusal.TheVariants.{BadWindow, NoRegister}
use Rattle.linker_spec.specs.Refusal.{refusal_number}
use Rattle.desk_spec.specs.declared.place.Change.TheVariants.{Served}
use Rattle.desk_spec.specs.Desk.{place_at, oldest, changed}
use Rattle.desk_spec.specs.Bytes.{desk_of, with_desk}
use Rattle.desk_spec.specs.Outcome.{Handled, handled, handle, turn_outcome_of, idle, turn_at, serve, turn_outcome}
use Rattle.fillqhano.specs.Refusal.{refusal_of_buffers}
use Rattle.fillqhano.proofs.Laws.{tests_pass}

module _ (at : ℕ) (desk : List ℕ) (b : Buffers) {n : ℕ}
    (e : n ≡ refusal_of_buffers (good_window at b.window) (is_register b.records b.names b.missing)) where
  served_by : n ≡ 0 → serve (turn_at desk) at desk b ≡ turn_outcome at desk b
  unfolding turn_outcome
  served_by z = let passed = tests_pass _ _ e z in rw (passed.0, passed.1)

  module _ {value touched first served caller buffer : ℕ} (no_value : (value ≡ 0) × (touched ≡ 0) × (first ≡ 0))
      (no-caller : (served ≡ 0) × (caller ≡ 0) × (buffer ≡ 0)) where
    unchanged : (m : ℕ) → turn_outcome_of (handled m value served (touched, first) b) caller buffer desk ≡ idle m desk b
    unchanged m = rw (no_value.0, no_value.1, no_value.2, no-caller.0, no-caller.1, no-caller.2)

    pub turn-refused : (n ≡ 0 → ⊥) → turn_outcome_of (handled n value served (touched, first) b) caller buffer desk ≡ turn_outcome at desk b
    unfolding turn_outcome refusal_of_buffers
    turn-refused k = unchanged n ∙ go (good_window at b.window) (is_register b.records b.names b.missing) e
      where
        go
            : (g v : Bool) → n ≡ refusal_of_buffers g v
            → idle n desk b
            ≡ (if g then (if v then serve (turn_at desk) at desk b else idle (refusal_number NoRegister) desk b) else idle (refusal_number BadWindow) desk b)
        go true true z = absurd (k z)
        go true false z = rw z
        go false v z = rw z

    pub turn-idle
        : n ≡ 0 → {t : Option ℕ} → t ≡ turn_at desk → t ≡ None → turn_outcome_of (handled 0 value served (touched, first) b) caller buffer desk ≡ turn_outcome at desk b
    unfolding serve
    turn-idle z f nobody = unchanged 0 ∙ ap (λ t. serve t at desk b) (sym nobody ∙ f) ∙ served_by z

  pub turn-served
      : n ≡ 0 → {t : Option ℕ} → t ≡ turn_at desk → {i : ℕ} → t ≡ Some i → {caller buffer : ℕ} → caller ≡ (place_at (desk_of desk).places i).caller
      → buffer ≡ oldest (place_at (desk_of desk).places i) → {did : Handled} → did ≡ handle at buffer b → {desk' : List ℕ}
      → desk' ≡ with_desk (changed (Served i) (desk_of desk)) desk → turn_outcome_of did caller buffer desk' ≡ turn_outcome at desk b
  unfolding serve
  turn-served z f {i} of ec eb ed ek =
      rw (ec, ed, eb, ek) (ap (λ t. serve t at desk b) (sym of ∙ f) ∙ served_by z)
