-- The two tables of a module entry under one definition.
use Rattle.std.specs.Prelude.{ℕ, Option}
use Rattle.window.specs.Memory.{◌⊕◌}
use Rattle.window.specs.Access.{Prog, ret, ◌>>=◌, get32}
use Rattle.window.specs.Loop.{loop}
use Rattle.layout.specs.Header.{import_indexed_symbol_entry_size}
use Rattle.layout.specs.Segments.{entry_at}
use Rattle.register.specs.Module.{Module}
use Rattle.register.specs.Read.Read.{entry_of}
use Rattle.linker_spec.specs.Imports.{anonymous_of, import_from, link_from}
use Rattle.linker.specs.declared.sources.source.ImportTable.{ImportTable}
use Rattle.linker.specs.declared.sources.source.ImportTable.TheVariants.{Indexed, Anonymous}
use Rattle.linker.specs.declared.sources.source.ModuleTables.{ModuleTables}

-- what a table's number stands for: an index, or a tag
unfoldable pub symbol_of : ImportTable → Module → ℕ → Option ℕ
symbol_of Indexed m x = entry_of m.indexed x
symbol_of Anonymous m x = anonymous_of m x

unfoldable pub import_table : ImportTable → Module → (base table count : ℕ) → Prog (Unit {0})
import_table kind m base table count =
    loop (λ i _. import_from (symbol_of kind m) base (entry_at table i import_indexed_symbol_entry_size)) 0 count tt

-- a module entry's words about both, and what they say of the imports
unfoldable pub tables_of : ℕ → Prog ModuleTables
tables_of entry = do
  indexed ← get32 (entry ⊕ 4)
  n ← get32 (entry ⊕ 8)
  anonymous ← get32 (entry ⊕ 12)
  m ← get32 (entry ⊕ 16)
  ret (record { indexed_table = indexed; indexed_count = n; anonymous_table = anonymous; anonymous_count = m })

abbrev pub link_tables : Option Module → ℕ → ModuleTables → Prog (Unit {0})
link_tables source base t = link_from source base t.indexed_table t.indexed_count t.anonymous_table t.anonymous_count
