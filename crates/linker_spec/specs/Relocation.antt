-- Relocation: internal relocations, the reset of external ones, and the batch walk.
use Rattle.std.specs.Prelude.{if◌then◌else◌, ℕ, zero, suc, Bool, true, false, eqb, ltb, Option, Some, None, unwrap_or}
use Rattle.window.specs.Memory.{◌⊕◌}
use Rattle.window.specs.Access.{Prog, ret, ◌>>=◌, ◌>>◌, get8, get32, put8}
use Rattle.window.specs.Loop.{loop}
use Rattle.layout.specs.Header.{internal_relocation_table_offset, internal_relocation_num, external_relocation_table_offset, external_relocation_num, relocation_entry_size, on_unresolved_segment_tag}
use Rattle.layout.specs.Format.{relocation_type, tag_segment, tag_offset}
use Rattle.layout.specs.Segments.{field, entry_at, segment, tag_to_address}
use Rattle.layout.specs.Relocation.Relocation.{apply_relocation}
use Rattle.layout.specs.declared.format.SegmentType.{SegmentType}
use Rattle.layout.specs.declared.format.SegmentType.TheVariants.{Code, RoData, Data, Bss}
use Rattle.layout.specs.declared.format.Segment.{Segment}

-- "Internal relocations into Data write at the old place, with the final place subtracted for kind 3."
unfoldable pub write_place : SegmentType → (old offset final : ℕ) → ℕ
write_place Data old offset final = old ⊕ offset
write_place Code old offset final = final
write_place RoData old offset final = final
write_place Bss old offset final = final

-- the symbol is the start of the symbol segment; none: nothing is written
unfoldable pub relocate_from : Option Segment → (target kind addend final : ℕ) → Prog (Unit {0})
relocate_from None target kind addend final = ret tt
relocate_from (Some s) target kind addend final = apply_relocation target (relocation_type kind) addend s.offset final

-- the target segment first, then the offset's test, then the symbol segment
unfoldable pub relocate_into : (base old : ℕ) → Option Segment → (tag kind symbol addend : ℕ) → Prog (Unit {0})
relocate_into base old None tag kind symbol addend = ret tt
relocate_into base old (Some s) tag kind symbol addend =
    if ltb (tag_offset tag) s.size then (do
      from ← segment base symbol
      relocate_from from (write_place s.kind old (tag_offset tag) (s.offset ⊕ tag_offset tag)) kind addend (s.offset ⊕ tag_offset tag))
    else ret tt

unfoldable pub apply_internal_relocation : (base old entry : ℕ) → Prog (Unit {0})
apply_internal_relocation base old entry = do
  tag ← get32 entry
  kind ← get8 (entry ⊕ 4)
  symbol ← get8 (entry ⊕ 5)
  addend ← get32 (entry ⊕ 8)
  target ← segment base (tag_segment tag)
  relocate_into base old target tag kind symbol addend

unfoldable pub apply_internal_relocations : ℕ → ℕ → Prog (Unit {0})
apply_internal_relocations base old = do
  table ← field base internal_relocation_table_offset
  count ← field base internal_relocation_num
  loop (λ i _. apply_internal_relocation base old (entry_at table i relocation_entry_size)) 0 count tt

abbrev pub address_or0 : Option ℕ → ℕ
address_or0 a = unwrap_or a 0

-- the module's handler for imports that nothing provides, 0 where its tag is unusable
unfoldable pub unresolved_symbol : ℕ → Prog ℕ
unresolved_symbol base = do
  tag ← field base on_unresolved_segment_tag
  a ← tag_to_address base tag
  ret (address_or0 a)

-- an external relocation at a usable address; kind 3 subtracts the place written
unfoldable pub relocate_at : Option ℕ → (kind addend symbol : ℕ) → Prog (Unit {0})
relocate_at (Some target) kind addend symbol = apply_relocation target (relocation_type kind) addend symbol target
relocate_at None kind addend symbol = ret tt

-- "`initialize` and `load` set external relocations to the handler only if its address is not 0; marks are always cleared."
unfoldable pub reset_entry : (base handler entry : ℕ) → Prog (Unit {0})
reset_entry base handler entry = do
  if eqb handler 0 then ret tt else (do
    tag ← get32 entry
    kind ← get8 (entry ⊕ 4)
    addend ← get32 (entry ⊕ 8)
    target ← tag_to_address base tag
    relocate_at target kind addend handler)
  put8 (entry ⊕ 6) 0

unfoldable pub reset_external_relocations : ℕ → Prog (Unit {0})
reset_external_relocations base = do
  handler ← unresolved_symbol base
  table ← field base external_relocation_table_offset
  count ← field base external_relocation_num
  loop (λ i _. reset_entry base handler (entry_at table i relocation_entry_size)) 0 count tt

-- "A batch walk stops after the entry with an end mark, or after 0x1001 entries": `more` may still be walked, n were
unfoldable pub walk : (more base symbol entry n : ℕ) → Prog ℕ
walk zero base symbol entry n = ret n
walk (suc f) base symbol entry n = do
  tag ← get32 entry
  kind ← get8 (entry ⊕ 4)
  end ← get8 (entry ⊕ 5)
  addend ← get32 (entry ⊕ 8)
  target ← tag_to_address base tag
  relocate_at target kind addend symbol
  if eqb end 0 then walk f base symbol (entry ⊕ relocation_entry_size) (suc n) else ret (suc n)

abbrev pub batch_limit : ℕ
batch_limit = 0x1001

abbrev pub mark : Bool → ℕ
mark true = 1
mark false = 0

-- the entries walked; the first entry's mark then says whether the batch is resolved
unfoldable pub apply_relocation_batch : (base batch symbol : ℕ) → Bool → Prog ℕ
apply_relocation_batch base batch symbol resolved = do
  n ← walk batch_limit base symbol batch 0
  put8 (batch ⊕ 6) (mark resolved)
  ret n

unfoldable pub batch_is_resolved : ℕ → Prog Bool
batch_is_resolved batch = do
  m ← get8 (batch ⊕ 6)
  ret (if eqb m 0 then false else true)
