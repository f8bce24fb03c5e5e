-- Rebasing: every stored offset becomes an address, or an address an offset again.
use Rattle.std.specs.Prelude.{if◌then◌else◌, ℕ, ◌+◌, ◌*◌, List, [], ◌∷◌, Bool, true, false, ◌||◌, take, eqb, ltb, Option, Some, None}
use Rattle.window.specs.Memory.{◌⊕◌, ◌⊖◌}
use Rattle.window.specs.Access.{Prog, ret, ◌>>=◌, ◌>>◌, get32, put32}
use Rattle.window.specs.Loop.{loop}
use Rattle.layout.specs.Header.{name_offset, first_rebased, segment_num}
use Rattle.layout.specs.Segments.{field, entry_at, segment, set_segment}
use Rattle.layout.specs.declared.format.Segment.{Segment}
use Rattle.layout.specs.declared.format.SegmentType.{SegmentType}
use Rattle.layout.specs.declared.format.SegmentType.TheVariants.{Code, RoData, Data, Bss}
use Rattle.layout.specs.declared.tables.PointerTable.{PointerTable}
use Rattle.linker_spec.specs.declared.rebase.LoadArguments.{LoadArguments}

-- "magic not CRO0 or CRS0": the four bytes, lowest first
unfoldable pub is_magic : ℕ → Bool
is_magic word = eqb word 0x304f5243 || eqb word 0x30535243

-- an offset becomes an address, or the address an offset again
abbrev pub moved : Bool → ℕ → ℕ → ℕ
moved true base v = v ⊕ base
moved false base v = v ⊖ base

-- "Table offsets and names rebase only if not 0."
unfoldable pub move_word : Bool → ℕ → ℕ → Prog (Unit {0})
move_word forward base p = do
  v ← get32 p
  if eqb v 0 then ret tt else put32 p (moved forward base v)

-- the name's offset, then the 17 offsets from the code's on
unfoldable pub move_header : Bool → ℕ → Prog (Unit {0})
move_header forward base = do
  move_word forward base (base ⊕ name_offset)
  loop (λ i _. move_word forward base (base ⊕ (first_rebased + 8 * i))) 0 17 tt

abbrev pub at_offset : Segment → ℕ → Segment
at_offset s x = record { offset = x; size = s.size; kind = s.kind }

-- "Data or Bss of size above 0 takes the lent address; a size above the lent size is refused, equal passes."
unfoldable pub lent_place : Segment → (address size old : ℕ) → Option (Segment × ℕ)
lent_place s address size old = if ltb size s.size then None else Some (at_offset s address, old)

-- "Other segments with offset above 0 move by the base; a moved offset above base + size is refused, equal passes."
unfoldable pub moved_place : LoadArguments → Segment → ℕ → Option (Segment × ℕ)
moved_place l s old =
    if eqb s.offset 0 then Some (s, old)
    else (if ltb (l.base ⊕ l.size) (s.offset ⊕ l.base) then None else Some (at_offset s (s.offset ⊕ l.base), old))

-- Data's old place is where its bytes still stand in the image
unfoldable pub place : LoadArguments → Segment → SegmentType → ℕ → Option (Segment × ℕ)
place l s Code old = moved_place l s old
place l s RoData old = moved_place l s old
place l s Data old = if eqb s.size 0 then moved_place l s old else lent_place s l.data_segment l.data_segment_size (s.offset ⊕ l.base)
place l s Bss old = if eqb s.size 0 then moved_place l s old else lent_place s l.bss_segment l.bss_segment_size old

-- the segments of a load, in order, up to the first that is refused

unfoldable pub write_back : ℕ → ℕ → Option (Segment × ℕ) → Prog (Option ℕ)
write_back base i None = ret None
write_back base i (Some (s, old)) = do
  set_segment base i s
  ret (Some old)

-- a lookup that finds no segment, the count having changed meanwhile, passes the turn over
unfoldable pub move_found : LoadArguments → ℕ → ℕ → Option Segment → Prog (Option ℕ)
move_found l i old None = ret (Some old)
move_found l i old (Some s) = write_back l.base i (place l s s.kind old)

unfoldable pub move_segment : LoadArguments → ℕ → Option ℕ → Prog (Option ℕ)
move_segment l i None = ret None
move_segment l i (Some old) = do
  s ← segment l.base i
  move_found l i old s

unfoldable pub move_segments : LoadArguments → Prog (Option ℕ)
move_segments l = do
  count ← field l.base segment_num
  loop (move_segment l) 0 count (Some 0)

-- "`initialize` neither changes nor checks segments": it looks each of them up
unfoldable pub look_at_segments : ℕ → Prog (Unit {0})
look_at_segments base = do
  count ← field base segment_num
  loop (λ i _. segment base i >> ret tt) 0 count tt

-- the pointers of one entry, in order
unfoldable pub move_pointers : Bool → ℕ → ℕ → List ℕ → Prog (Unit {0})
move_pointers forward base entry [] = ret tt
move_pointers forward base entry (x ∷ xs) = do
  move_word forward base (entry ⊕ x)
  move_pointers forward base entry xs

abbrev pub pointers_of : PointerTable → List ℕ
pointers_of t = take t.pointers (t.first ∷ t.second ∷ t.third ∷ [])

-- one table: its offset and its count are read once; nothing moves where the offset is 0
unfoldable pub move_table : Bool → ℕ → PointerTable → Prog (Unit {0})
move_table forward base t = do
  table ← field base t.table
  count ← field base t.count
  if eqb table 0 then ret tt
      else loop (λ i _. move_pointers forward base (entry_at table i t.entry_size) (pointers_of t)) 0 count tt

unfoldable pub move_tables : Bool → ℕ → List PointerTable → Prog (Unit {0})
move_tables forward base [] = ret tt
move_tables forward base (t ∷ ts) = do
  move_table forward base t
  move_tables forward base ts
