-- From the code's writes to the definitions.
use Rattle.std.proofs.Common.{◌≡◌, ℕ, Option, Some, None}
use Rattle.window.specs.Access.{put32_privileged}
use Rattle.window.specs.Trace.{State, run_t}
use Rattle.layout.specs.Relocation.Relocation.{patch, relocated_word, apply_relocation}
use Rattle.layout.specs.declared.format.RelocationType.{RelocationType}

module _ (at target : ℕ) (kind : RelocationType) (addend symbol final : ℕ) (s : State) {p : Option ℕ} (e : p ≡ relocated_word kind addend symbol final) where
  -- a relocated word, as the code finds it
  pub word-written
      : (v : ℕ) {after : State} → p ≡ Some v → after ≡ (run_t at (put32_privileged target v) s).1
      → after ≡ (run_t at (apply_relocation target kind addend symbol final) s).1
  unfolding apply_relocation patch
  word-written v f g = rw (← e, f, patch) g

  pub nothing_written : p ≡ None → s ≡ (run_t at (apply_relocation target kind addend symbol final) s).1
  unfolding apply_relocation patch run_t
  nothing_written f = rw (← e, f, patch, run_t)
