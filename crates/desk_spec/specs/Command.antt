-- `handle` of ldr_ro.rs for "requests whose address is 0 or equals the source: ids 1 to 9, parameter places and reply words as there".
use Rattle.std.specs.Prelude.{if◌then◌else◌, ℕ, suc, ◌+◌, ◌*◌, ◌/◌, ◌%◌, List, [], ◌∷◌, Bool, ◌||◌, eqb}
use Rattle.window.specs.Memory.{◌⊕◌, word_at, put_word}
use Rattle.linker_spec.specs.declared.call.Call.{Call}
use Rattle.linker_spec.specs.declared.call.Call.TheVariants.{Initialize, Load, Unload}
use Rattle.linker_spec.specs.Outcome.{load_arguments}
use Rattle.desk_spec.specs.declared.command.Command.{Command}
use Rattle.desk_spec.specs.declared.command.Command.TheVariants.{Elsewhere, Acknowledged, Unknown}

-- a command buffer lies in the window: word i of the one at p
unfoldable pub buffer_word : (at : ℕ) → List ℕ → (p i : ℕ) → ℕ
buffer_word at w p i = word_at at w (p ⊕ 4 * i)

-- "address is 0 or equals the source"
unfoldable pub in_place : (source address : ℕ) → Bool
in_place source address = eqb address 0 || eqb address source

-- initialize(source, size, address)
unfoldable pub initialize_asked : (ℕ → ℕ) → Command
initialize_asked word = if in_place (word 1) (word 3) then Command.Call (Initialize (word 1) (word 2)) else Elsewhere

-- LoadCRO(source, address, size, data segment, 0, data size, bss segment, bss size, auto link, fix level): auto link is "a u8 in its word"
unfoldable pub load_asked : (ℕ → ℕ) → Command
load_asked word =
    if in_place (word 1) (word 2)
    then Command.Call (Load (load_arguments (word 1) (word 3) (word 4) (word 6) (word 7) (word 8)) (word 9 % 256) (word 10))
    else Elsewhere

-- what the words of a command buffer ask for, by its id
unfoldable pub command_of : ℕ → (ℕ → ℕ) → Command
command_of id word =
    if eqb id 1 then initialize_asked word else
    if eqb id 4 || eqb id 9 then load_asked word else
    if eqb id 5 then Command.Call (Unload (word 1)) else
    if eqb id 2 || (eqb id 3 || (eqb id 6 || (eqb id 7 || eqb id 8))) then Acknowledged else Unknown

unfoldable pub id_at : (at : ℕ) → List ℕ → (p : ℕ) → ℕ
id_at at w p = buffer_word at w p 0 / 65536

unfoldable pub command_at : (at : ℕ) → List ℕ → (p : ℕ) → Command
command_at at w p = command_of (id_at at w p) (buffer_word at w p)

-- replies, by their words: the header with the id and the count of what follows, a result, values
abbrev pub header : (id count : ℕ) → ℕ
header id count = id * 65536 + count * 64

abbrev pub done_reply : ℕ → List ℕ
done_reply id = header id 1 ∷ 0 ∷ []

abbrev pub loaded_reply : (id fixed : ℕ) → List ℕ
loaded_reply id fixed = header id 2 ∷ 0 ∷ fixed ∷ []

abbrev pub error_reply : ℕ → List ℕ
error_reply id = header id 1 ∷ 0xd901_2402 ∷ []

-- "0xD9012402 for any initialize or load refused but by 3 or 4", which no turn meets here; an unload is done whether a module left or not
unfoldable pub reply_to : Call → (id number value : ℕ) → List ℕ
reply_to (Initialize base size) id number value = if eqb number 0 then done_reply id else error_reply id
reply_to (Load l auto level) id number value = if eqb number 0 then loaded_reply id value else error_reply id
reply_to (Unload base) id number value = done_reply id

-- these words, in order, from word i of the buffer at p on
unfoldable pub replied : (at : ℕ) → List ℕ → (p i : ℕ) → List ℕ → List ℕ
replied at w p i [] = w
replied at w p i (v ∷ vs) = replied at (put_word at w (p ⊕ 4 * i) v) p (suc i) vs
