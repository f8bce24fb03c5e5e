-- The stored call by its words, and what it gives.
use Prim.Native.Nat.{ℕ, ◌+◌}
use mathlib.Core.Path.{◌≡◌}
use mathlib.Core.List.{List}
use lib.ListN.{get_or}
use borrow.Author.Tests.{ne_eqb}
use Rattle.linker_spec.specs.declared.call.Call.{Call}
use Rattle.linker_spec.specs.declared.call.Call.TheVariants.{Initialize, Load, Unload}
use Rattle.linker_spec.specs.Outcome.{Buffers, Outcome, load_arguments}
use Rattle.linker_spec.specs.Touches.{touches_of}
use Rattle.history.specs.Sessions.{given, WordArguments}
use Rattle.call_cases.specs.Case.{stored_call, called, touched_by}

module _ (ws : List ℕ) (at : ℕ) {base size k : ℕ} (eb : base ≡ get_or ws (at + 7) 0) (es : size ≡ get_or ws (at + 8) 0) (ek : k ≡ get_or ws (at + 1) 0) where
  pub stored-initialize : k ≡ 1 → Initialize base size ≡ stored_call ws at
  unfolding stored_call
  stored-initialize z = rw (← ek, z, ← eb, ← es)

  pub stored-load
      : {da ds ba bs auto level : ℕ} → k ≡ 2 → da ≡ get_or ws (at + 9) 0 → ds ≡ get_or ws (at + 10) 0 → ba ≡ get_or ws (at + 11) 0
      → bs ≡ get_or ws (at + 12) 0 → auto ≡ get_or ws (at + 13) 0 → level ≡ get_or ws (at + 14) 0
      → Load (load_arguments base size da ds ba bs) auto level ≡ stored_call ws at
  unfolding stored_call
  stored-load z e₁ e₂ e₃ e₄ e₅ e₆ = rw (← ek, z, ← eb, ← es, ← e₁, ← e₂, ← e₃, ← e₄, ← e₅, ← e₆)

  pub stored-unload : (k ≡ 1 → ⊥) → (k ≡ 2 → ⊥) → Unload base ≡ stored_call ws at
  unfolding stored_call
  stored-unload n₁ n₂ = rw (← ek, ne_eqb k 1 n₁, ne_eqb k 2 n₂, ← eb)

pub stored_made
    : (ws : List ℕ) (at : ℕ) (b : Buffers) {from : ℕ} {call : Call} → call ≡ stored_call ws at → from ≡ get_or ws (at + 2) 0 → {o : Outcome} {touch : ℕ × ℕ}
    → (o ≡ given call from b) × ((touch ≡ touches_of call from b) × WordArguments call) → (o ≡ called ws at b) × (touch ≡ touched_by ws at b)
unfolding called touched_by
stored_made ws at b ec ef made = rw (← ec, ← ef) (made.0, made.1.0)
