-- One external relocation as a program: what a turn of the batch walk and of the external reset have in common.
use Rattle.std.specs.Prelude.{ℕ}
use Rattle.window.specs.Memory.{◌⊕◌}
use Rattle.window.specs.Access.{Prog, ret, ◌>>=◌, ◌>>◌, get8, get32}
use Rattle.layout.specs.Segments.{tag_to_address}
use Rattle.linker_spec.specs.Relocation.{relocate_at}

-- what is done with an entry's words
unfoldable pub relocate_entry : (base symbol tag kind addend : ℕ) → Prog (Unit {0})
relocate_entry base symbol tag kind addend = do
  target ← tag_to_address base tag
  relocate_at target kind addend symbol

unfoldable pub apply_entry : (base symbol entry : ℕ) → Prog (Unit {0})
apply_entry base symbol entry = do
  tag ← get32 entry
  kind ← get8 (entry ⊕ 4)
  addend ← get32 (entry ⊕ 8)
  relocate_entry base symbol tag kind addend

-- a turn of the walk, which gives the end mark
unfoldable pub walk_entry : (base symbol entry : ℕ) → Prog ℕ
walk_entry base symbol entry = do
  tag ← get32 entry
  kind ← get8 (entry ⊕ 4)
  end ← get8 (entry ⊕ 5)
  addend ← get32 (entry ⊕ 8)
  relocate_entry base symbol tag kind addend
  ret end
