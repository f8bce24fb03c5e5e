-- The pieces of the line, in the order in which they are put.
use Rattle.std.specs.Prelude.{Option}
use Prim.Native.Nat.{ℕ}
use mathlib.Core.List.{◌++◌}
use Rattle.text.specs.declared.Text.{Text}
use Rattle.text.specs.Text.{bytes, hex_of, decimal_of}
use Rattle.text.specs.Puts.{Puts, puts_then, puts-then-two}
use Rattle.linker_spec.specs.declared.call.Call.{Call}
use Rattle.session.specs.Lines.{step_name, step_line}

pub step_line_lem
    : (k : ℕ) (step : Option Call) (number value : ℕ) {t₀ t₁ t₂ t₃ t₄ t₅ t₆ : Text} → Puts (decimal_of k) t₀ t₁ → Puts (bytes " ") t₁ t₂
    → Puts (step_name step) t₂ t₃ → Puts (bytes " " ++ decimal_of number) t₃ t₄ → Puts (bytes " " ++ hex_of value) t₄ t₅ → Puts (bytes "\n") t₅ t₆
    → Puts (step_line k step number value) t₀ t₆
unfolding step_line
step_line_lem k step number value e₁ e₂ e₃ e₄ e₅ e₆ =
    puts_then (puts-then-two _ _ (puts-then-two _ _ (puts_then (puts_then e₁ e₂) e₃) e₄) e₅) e₆
