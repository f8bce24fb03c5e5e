-- Unrebasing: an unloaded module gets its offsets back.
use Rattle.std.specs.Prelude.{if◌then◌else◌, ℕ, eqb, false, Option, Some, None}
use Rattle.window.specs.Memory.{◌⊖◌}
use Rattle.window.specs.Access.{Prog, ret, ◌>>=◌, ◌>>◌}
use Rattle.window.specs.Loop.{loop}
use Rattle.layout.specs.Header.{segment_num, fixed_size}
use Rattle.layout.specs.Tables.{pointer_tables}
use Rattle.layout.specs.Segments.{field, set_field, segment, set_segment}
use Rattle.layout.specs.declared.format.Segment.{Segment}
use Rattle.layout.specs.declared.format.SegmentType.{SegmentType}
use Rattle.layout.specs.declared.format.SegmentType.TheVariants.{Code, RoData, Data, Bss}
use Rattle.linker_spec.specs.Rebase.{at_offset, move_header, move_tables}

-- "A Data segment leaves as lent address − base, as in the Rust."
unfoldable pub offset_back : ℕ → ℕ → ℕ
offset_back base x = if eqb x 0 then 0 else x ⊖ base

unfoldable pub leaves_as : ℕ → Segment → SegmentType → Segment
leaves_as base s Code = at_offset s (offset_back base s.offset)
leaves_as base s RoData = at_offset s (offset_back base s.offset)
leaves_as base s Data = at_offset s (offset_back base s.offset)
leaves_as base s Bss = at_offset s 0

unfoldable pub unmove_found : ℕ → ℕ → Option Segment → Prog (Unit {0})
unmove_found base i None = ret tt
unmove_found base i (Some s) = set_segment base i (leaves_as base s s.kind)

unfoldable pub unmove_segment : ℕ → ℕ → Prog (Unit {0})
unmove_segment base i = do
  s ← segment base i
  unmove_found base i s

unfoldable pub unmove_segments : ℕ → Prog (Unit {0})
unmove_segments base = do
  count ← field base segment_num
  loop (λ i _. unmove_segment base i) 0 count tt

-- the tables first, then the segments, then the header; the fixed size is 0 again
unfoldable pub unrebase : ℕ → Prog (Unit {0})
unrebase base = do
  move_tables false base pointer_tables
  unmove_segments base
  move_header false base
  set_field base fixed_size 0
