-- What is known of a module when its record is read: it stands without links, or the call was refused.
use Rattle.std.specs.Prelude.{if◌then◌else◌, ℕ, ◌+◌, ◌<◌, ◌≡◌, refl, ◌⊎◌, Bool, None}
use Rattle.std.proofs.Common.{lt-ltb}
use Rattle.window.specs.Access.{Prog, ret, ◌>>=◌}
use Rattle.window.specs.Mirror.{word}
use Rattle.layout.specs.Header.{next_cro, previous_cro}
use Rattle.register.specs.Module.{Module, Register}
use Rattle.linker_spec.specs.Exports.{read_module}
use Rattle.linker_spec.specs.Calls.{Answer, fits, Refused}
use Rattle.linker_spec.specs.declared.refusal.Refusal.TheVariants.{NotACro, BadSegment, NoRoom}
use Rattle.history.specs.LoadedModule.{Image, LoadedModule, cut, image_of, base_of, size_of, Area}
use Rattle.history.specs.Steps.Wp.{Memory, SameOutside}
use Rattle.history.specs.Steps.View.{View}
use Rattle.history.specs.Steps.Links.{Stands}
use Rattle.history.specs.Rebase.PartlyRebased.{Headed}
use Rattle.history.specs.Rebase.Header.{AsInFile}

-- an image as its call found it stands so in that call's bytes
pub fresh_image : (a : LoadedModule) → AsInFile (image_of a) a.bytes
unfolding cut
fresh_image a o l = rw (lt-ltb o (size_of a.load_call) l) refl

pub image_bytes : (a : LoadedModule) → ((q : ℕ) → a.bytes q < 256) → (o : ℕ) → o < size_of a.load_call → (image_of a).file o < 256
image_bytes a b o l = rw (← fresh_image a o l) (b (base_of a.load_call + o))

-- B is the memory before the call: the new module stands in N, which is B but for its areas
pub record Arrived (m : Image) (B N : Memory) : Type 0 where
  pub view : View m N
  pub headed : Headed m N
  pub stands : Stands m N (λ _. None) (word m.file next_cro) (word m.file previous_cro) N
  pub outside : SameOutside (Area m) B N

-- what follows the external reset
abbrev pub recorded : (records names : ℕ) → Register → (base size : ℕ) → Bool → (Module → Prog Answer) → Prog Answer
recorded records names r base size auto next =
    read_module base size auto >>= λ k. if fits records names r k then next k else ret (Refused NoRoom)

-- a refused call has touched nothing but the module's areas
abbrev pub Refuses : (Answer → Memory → Type 0) → Image → Memory → Type 0
Refuses Q m B = (x : Answer) (N : Memory) → (x ≡ Refused NotACro) ⊎ (x ≡ Refused BadSegment) → SameOutside (Area m) B N → Q x N
