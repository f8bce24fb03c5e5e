-- How far a batch walk counts, and what it yields by its end marks.
use Prim.Native.Nat.{ℕ, zero, suc, ◌≤◌}
use Rattle.std.specs.Prelude.{◌≡◌}
use mathlib.Core.List.{List}
use Rattle.std.proofs.Math.Bool.{false}
use Rattle.std.proofs.Math.Dec.{eqb}
use Rattle.window.specs.Memory.{◌⊕◌, byte_at}
use Rattle.window.specs.Access.{run}
use Rattle.layout.specs.Header.{relocation_entry_size}
use Rattle.register.specs.Module.{Register}
use Rattle.linker_spec.specs.Relocation.{walk}
use Rattle.linker_spec.specs.Calls.{Answer, number}

-- a walk of a batch counts at least the first entry and at most 0x1001
abbrev pub Counted : (least most k : ℕ) → Type 0
Counted least most k = (least ≤ k) × (k ≤ most)

module _ (at base symbol : ℕ) where
  -- the window that one entry leaves
  abbrev pub afterEntry : List ℕ → (entry : ℕ) → List ℕ
  afterEntry w entry = (run at (walk 1 base symbol entry 0) w).1

  -- none of the n entries from `entry` on has an end mark
  unfoldable pub Unmarked : (n : ℕ) → List ℕ → (entry : ℕ) → Type 0
  Unmarked zero w entry = Unit {0}
  Unmarked (suc n) w entry = (byte_at at w (entry ⊕ 5) ≡ 0) × Unmarked n (afterEntry w entry) (entry ⊕ relocation_entry_size)

  -- the entry after n others is the first with an end mark
  unfoldable pub MarkedAfter : (n : ℕ) → List ℕ → (entry : ℕ) → Type 0
  MarkedAfter zero w entry = byte_at at w (entry ⊕ 5) ≡ 0 → ⊥
  MarkedAfter (suc n) w entry = (byte_at at w (entry ⊕ 5) ≡ 0) × MarkedAfter n (afterEntry w entry) (entry ⊕ relocation_entry_size)

module _ (base size records names : ℕ) (r : Register) where
  abbrev pub Not2 : Answer → Type 0
  Not2 a = eqb (number a) 2 ≡ false
