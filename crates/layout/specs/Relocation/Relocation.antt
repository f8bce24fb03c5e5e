-- What a relocation writes, and its write.
use Rattle.std.specs.Prelude.{◌≡◌, ℕ, List, Option, Some, None}
use Rattle.window.specs.Memory.{◌⊕◌, ◌⊖◌, put_privileged}
use Rattle.window.specs.Access.{Prog, ret, put32_privileged, run}
use Rattle.layout.specs.declared.format.RelocationType.{RelocationType}
use Rattle.layout.specs.declared.format.RelocationType.TheVariants.{AbsoluteAddress, RelativeAddress, ThumbBranch, ArmBranch, ModifyArmBranch, AlignedRelativeAddress, Unknown}

-- "2 and 10 write symbol + addend, 3 writes symbol + addend − final place, all others nothing."
abbrev pub relocated_word : RelocationType → (addend symbol final : ℕ) → Option ℕ
relocated_word RelocationType.Nothing addend symbol final = None
relocated_word AbsoluteAddress addend symbol final = Some (symbol ⊕ addend)
relocated_word RelativeAddress addend symbol final = Some (symbol ⊕ addend ⊖ final)
relocated_word ThumbBranch addend symbol final = None
relocated_word ArmBranch addend symbol final = None
relocated_word ModifyArmBranch addend symbol final = None
relocated_word AlignedRelativeAddress addend symbol final = None
relocated_word (Unknown k) addend symbol final = None

-- "A privileged write, used for relocated words"
unfoldable pub patch : ℕ → Option ℕ → Prog (Unit {0})
patch target (Some v) = put32_privileged target v
patch target None = ret tt

unfoldable pub apply_relocation : (target : ℕ) → RelocationType → (addend symbol final : ℕ) → Prog (Unit {0})
apply_relocation target kind addend symbol final = patch target (relocated_word kind addend symbol final)

module _ (at target : ℕ) (kind : RelocationType) (addend symbol final : ℕ) (w : List ℕ) where
  pub relocation_word
      : {v : ℕ} → relocated_word kind addend symbol final ≡ Some v
      → (run at (apply_relocation target kind addend symbol final) w).1 ≡ put_privileged at w target v
  unfolding apply_relocation patch run
  relocation_word e = rw (e, patch, run)

  pub relocation_nothing
      : relocated_word kind addend symbol final ≡ None → (run at (apply_relocation target kind addend symbol final) w).1 ≡ w
  unfolding apply_relocation patch run
  relocation_nothing e = rw (e, patch, run)
