-- What a search of the records asks of its test.
use Rattle.std.specs.Prelude.{◌≡◌, ℕ, Bool, List}
use Rattle.register.specs.Module.{Module}
use Rattle.register.specs.declared.read.Record.{Record}
use Rattle.register.specs.Read.Read.{record_at}
use Rattle.register.specs.Read.Places.{RecordStands}

-- of the record of a module the test says whether that is one of those looked for
abbrev pub Tells : (records names : List ℕ) → (Module → Bool) → (Record → Bool → Type 0) → Type 0
Tells records names takes answers =
    (place : ℕ) (m : Module) (b : Bool) → RecordStands records names place m → answers (record_at records place) b → b ≡ takes m
