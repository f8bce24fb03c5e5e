-- Document 01, "Proved cases, one table": those of relocated words.
use Rattle.std.specs.Prelude.{◌≡◌, ℕ, List, refl, Some}
use Rattle.window.specs.Access.{run}
use Rattle.layout.specs.Format.{relocation_type}
use Rattle.layout.specs.Relocation.Relocation.{relocated_word, apply_relocation, relocation_nothing}

-- "kind 10, 0xFFFFFFF0, addend 0x20": "0x10"
pub kind_10 : (final : ℕ) → relocated_word (relocation_type 10) 0x20 0xffff_fff0 final ≡ Some 0x10
unfolding relocation_type
kind_10 final = refl

-- "kind 3, 0x200000, addend 4, place 0x200100": "0xFFFFFF04"
pub kind_3 : relocated_word (relocation_type 3) 4 0x20_0000 0x20_0100 ≡ Some 0xffff_ff04
unfolding relocation_type
kind_3 = refl

-- "kind 5": "no write"
pub kind_5 : (at target addend symbol final : ℕ) (w : List ℕ) → (run at (apply_relocation target (relocation_type 5) addend symbol final) w).1 ≡ w
unfolding relocation_type
kind_5 at target addend symbol final w = relocation_nothing at target (relocation_type 5) addend symbol final w refl
