-- What a module's record may hold: exports, and 32-bit numbers.
use Rattle.std.specs.Prelude.{ℕ, ◌^◌, ◌<◌, ◌≡◌, true}
use mathlib.Core.List.{List}
use Rattle.register.specs.Module.{Export, Module, named_ok, ascending, proper_module}
use Rattle.linker_spec.specs.Room.{Addressed, Small}

-- exports that a record may keep
pub record RecordableExports (xs : List Export) : Type 0 where
  pub names : named_ok xs ≡ true
  pub ascends : ascending xs ≡ true
  pub small : Addressed xs

-- a 32-bit number
abbrev pub Is32Bit : ℕ → Type 0
Is32Bit n = n < 2 ^ 32

module _ (at : ℕ) where
  -- the record that a load or an `initialize` reads
  abbrev pub Readable : Module → Type 0
  Readable m = (proper_module m ≡ true) × Small m
