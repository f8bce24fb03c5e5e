-- Commands and replies of the request's worked example, and its ids, by computation.
use Rattle.std.specs.Prelude.{ℕ, ◌≡◌, List, [], ◌∷◌, get_or}
use Rattle.std.proofs.Math.Path.{refl}
use Rattle.linker_spec.specs.declared.call.Call.TheVariants.{Load, Unload}
use Rattle.linker_spec.specs.Outcome.{load_arguments}
use Rattle.desk_spec.specs.declared.command.Command.{Command}
use Rattle.desk_spec.specs.declared.command.Command.TheVariants.{Elsewhere, Acknowledged, Unknown}
use Rattle.desk_spec.specs.Command.{in_place, initialize_asked, load_asked, command_of, done_reply, loaded_reply, error_reply}

-- the words of a command buffer, 0 past them
abbrev words_of : List ℕ → ℕ → ℕ
words_of words i = get_or words i 0

-- a load of id 4, its auto-link word 0x101; an initialize with another address; an unload
load-asked
    : command_of 4 (words_of (0x000402c2 ∷ 0x100000 ∷ 0 ∷ 0x1000 ∷ 0 ∷ 0 ∷ 0 ∷ 0 ∷ 0 ∷ 0x101 ∷ 1 ∷ []))
    ≡ Command.Call (Load (load_arguments 0x100000 0x1000 0 0 0 0) 1 1)
unfolding command_of load_asked in_place
load-asked = refl

-- 0x100 counts as 0; the address is the source; word 5 is not read
load-not_auto_linked
    : command_of 9 (words_of (0x000902c2 ∷ 0x100800 ∷ 0x100800 ∷ 0x800 ∷ 4 ∷ 5 ∷ 6 ∷ 7 ∷ 8 ∷ 0x100 ∷ 0 ∷ []))
    ≡ Command.Call (Load (load_arguments 0x100800 0x800 4 6 7 8) 0 0)
unfolding command_of load_asked in_place
load-not_auto_linked = refl

initialize-elsewhere : command_of 1 (words_of (0x000100c2 ∷ 0x100800 ∷ 0x800 ∷ 0x300000 ∷ [])) ≡ Elsewhere
unfolding command_of initialize_asked in_place
initialize-elsewhere = refl

unload-asked : command_of 5 (words_of (0x00050082 ∷ 0x100000 ∷ [])) ≡ Command.Call (Unload 0x100000)
unfolding command_of
unload-asked = refl

module _ (word : ℕ → ℕ) where
  acknowledged_ids
      : (command_of 2 word ≡ Acknowledged) × (command_of 3 word ≡ Acknowledged) × (command_of 6 word ≡ Acknowledged)
      × (command_of 7 word ≡ Acknowledged) × (command_of 8 word ≡ Acknowledged)
  unfolding command_of
  acknowledged_ids = (refl, refl, refl, refl, refl)

  unknown_ids
      : (command_of 0 word ≡ Unknown) × (command_of 10 word ≡ Unknown) × (command_of 0x100 word ≡ Unknown) × (command_of 0xffff word ≡ Unknown)
  unfolding command_of
  unknown_ids = (refl, refl, refl, refl)

-- "A finished load's reply header is 0x00040080 for id 4."
replies
    : (loaded_reply 4 0x1000 ≡ 0x00040080 ∷ 0 ∷ 0x1000 ∷ []) × (done_reply 5 ≡ 0x00050040 ∷ 0 ∷ []) × (error_reply 1 ≡ 0x00010040 ∷ 0xd9012402 ∷ [])
replies = (refl, refl, refl)
