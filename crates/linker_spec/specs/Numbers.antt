-- What the number of a load and of an `initialize` rests on: the record that is read after the rebase, and whether it fits.
use Rattle.std.specs.Prelude.{if◌then◌else◌, ℕ, Bool, length, Option, Some, None}
use mathlib.Core.List.{List}
use Rattle.std.proofs.Math.Bool.{true}
use Rattle.window.specs.Access.{run}
use Rattle.register.specs.Module.{Module}
use Rattle.linker_spec.specs.declared.rebase.LoadArguments.{LoadArguments}
use Rattle.linker_spec.specs.Relocation.{reset_external_relocations}
use Rattle.linker_spec.specs.Exports.{read_module}
use Rattle.linker_spec.specs.Calls.{rebase, rebase_static, fits}
use Rattle.linker_spec.specs.Outcome.{Buffers}
use Rattle.linker_spec.specs.Refusals.{lent_register}

-- the record that is read after a rebase, the external relocations reset
abbrev pub read_after : (at base size : ℕ) → Bool → List ℕ → Module
read_after at base size auto w = (run at (read_module base size auto) (run at (reset_external_relocations base) w).1).0

-- the number after a good magic: 2 for a refused segment, else 0 or 5 as the record fits or not
abbrev pub entry_number : Option ℕ → Bool → ℕ
entry_number None f = 2
entry_number (Some old) f = if f then 0 else 5

-- the module that a load or an `initialize` would record
abbrev pub loaded_module : ℕ → LoadArguments → Bool → List ℕ → Module
loaded_module at l auto w = read_after at l.base l.size auto (run at (rebase l) w).1

abbrev pub initialized_module : (at base size : ℕ) → List ℕ → Module
initialized_module at base size w = read_after at base size true (run at (rebase_static base) w).1

module _ (at : ℕ) (b : Buffers) where
  abbrev pub fits_in : Module → Bool
  fits_in m = fits (length b.records) (length b.names) (lent_register b) m
