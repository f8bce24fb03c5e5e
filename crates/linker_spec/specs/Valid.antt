-- What a call on a valid register leaves.
use Rattle.std.specs.Prelude.{ℕ, ◌≤◌, ◌≡◌, List, length}
use Rattle.std.proofs.Math.Bool.{true}
use Rattle.register.specs.Module.{proper_names}
use Rattle.register.specs.Decode.{is_register}
use Rattle.register.specs.Buffers.{Below}
use Rattle.linker_spec.specs.Calls.{Answer, NotLoaded, Done, Refused}
use Rattle.linker_spec.specs.Outcome.{Buffers}
use Rattle.linker_spec.specs.Room.{Stored}

-- "the bytes are an encoding", number 4's rule
abbrev pub Valid : Buffers → Type 0
Valid b = is_register b.records b.names b.missing ≡ true

-- the window and the records are bytes
abbrev pub AreBytes : Buffers → Type 0
AreBytes b = Below 256 b.window × Below 256 b.records

-- missing names: names, at most 64
abbrev pub MissingNames : List (List ℕ) → Type 0
MissingNames ns = (length ns ≤ 64) × (proper_names ns ≡ true)

-- an answer that leaves a register in buffers of such lengths
abbrev pub LeavesRegister : ℕ → ℕ → Answer → Type 0
LeavesRegister records names (Refused refusal) = Unit {0}
LeavesRegister records names NotLoaded = Unit {0}
LeavesRegister records names (Done v r) = Stored records names r

module _ (b : Buffers) (v : Valid b) (t : AreBytes b) where
  -- a register again, bytes again, in buffers of the same lengths
  abbrev pub ValidAfter : Buffers → Type 0
  ValidAfter c =
      Valid c
      × AreBytes c
      × ((length c.window ≡ length b.window)
      × (length c.records ≡ length b.records)
      × (length c.names ≡ length b.names)
      × (length c.missing ≡ length b.missing))
