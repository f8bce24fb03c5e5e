-- The register that the lent bytes are, and buffers with another window.
use Rattle.std.specs.Prelude.{ℕ, List}
use Rattle.register.specs.Module.{Register}
use Rattle.register.specs.Decode.{register_of}
use Rattle.linker_spec.specs.Outcome.{Buffers}

-- the register that the lent bytes are
abbrev pub lent_register : Buffers → Register
lent_register b = register_of b.records b.names b.missing

-- with another window
abbrev pub windowed : Buffers → List ℕ → Buffers
windowed b w = record { window = w; records = b.records; names = b.names; missing = b.missing }
