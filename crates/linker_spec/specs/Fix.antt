-- Fixing: the tables that a level says the module no longer needs are dropped, and the rest's size is the value.
use Rattle.std.specs.Prelude.{if◌then◌else◌, ℕ, ◌+◌, ◌-◌, ◌*◌, ◌/◌, ◌%◌, ◌^◌, min, max, get_or, eqb, ltb}
use Rattle.window.specs.Memory.{◌⊕◌}
use Rattle.window.specs.Access.{Prog, ret, ◌>>=◌, ◌>>◌}
use Rattle.window.specs.Loop.{loop}
use Rattle.layout.specs.Header.{code_offset, code_size, module_name_offset, export_named_symbol_table_offset, import_module_table_offset, static_anonymous_symbol_table_offset, header_size, fixed_size}
use Rattle.layout.specs.Tables.{table_entry_sizes}
use Rattle.layout.specs.Segments.{field, set_field, entry_at}

-- "rounds up to 4,096 (wrapping to 0 past 2^32)"
unfoldable pub align_up : ℕ → ℕ
align_up n = (n + 4095) / 4096 * 4096 % 2 ^ 32

-- "The greatest end less the base, not below 0, rounds up to 4,096, then is at most the given size."
unfoldable pub fixed_to : (end base size : ℕ) → ℕ
fixed_to end base size = min (align_up (end - base)) size

-- one of the 15 pairs of table and count: it counts before the barrier, and is emptied from there on
unfoldable pub fix_pair : (base barrier i end : ℕ) → Prog ℕ
fix_pair base barrier i end = do
  table ← field base (module_name_offset + 8 * i)
  count ← field base (module_name_offset + 8 * i + 4)
  if ltb (module_name_offset + 8 * i) barrier
      then ret (if eqb count 0 then end else max end (entry_at table count (get_or table_entry_sizes i 0)))
      else (do
        set_field base (module_name_offset + 8 * i + 4) 0
        ret end)

-- the tables from the barrier on point at v, where the module now ends
unfoldable pub end_tables : (base barrier v : ℕ) → Prog (Unit {0})
end_tables base barrier v = loop (λ i _. set_field base (barrier + 8 * i) v) 0 ((header_size - barrier) / 8) tt

-- "Levels 1, 2, 3 cut from 0x120, 0x0F0, 0x0D0."
unfoldable pub fix_from : (base size barrier : ℕ) → Prog ℕ
fix_from base size barrier = do
  code ← field base code_offset
  bytes ← field base code_size
  end ← loop (fix_pair base barrier) 0 15 (code ⊕ bytes)
  end_tables base barrier (base ⊕ fixed_to end base size)
  set_field base fixed_size (fixed_to end base size)
  ret (fixed_to end base size)

-- "Fix level 0 or above 3 returns 0 and writes nothing."
unfoldable pub fix : (base size level : ℕ) → Prog ℕ
fix base size level =
    if eqb level 1 then fix_from base size static_anonymous_symbol_table_offset
    else (if eqb level 2 then fix_from base size import_module_table_offset
    else (if eqb level 3 then fix_from base size export_named_symbol_table_offset else ret 0))
