-- Document 01, "Proved cases, one table": those of the layout.
use Rattle.std.specs.Prelude.{◌≡◌, ℕ, List, refl, Some, None}
use Rattle.std.proofs.Common.{arith}
use Rattle.window.specs.Memory.{◌⊕◌}
use Rattle.window.specs.Access.{run}
use Rattle.layout.specs.Format.{segment_type, segment_type_number, tag_segment, tag_offset}
use Rattle.layout.specs.Segments.{segment, tag_to_address, tag_at, tag-past}
use Rattle.layout.specs.declared.format.Segment.{Segment}
use Rattle.layout.specs.declared.format.SegmentType.TheVariants.{Bss}

-- "tag 0x123": "segment 3, offset 0x12"
pub tag_0x123 : (tag_segment 0x123 ≡ 3) × (tag_offset 0x123 ≡ 0x12)
tag_0x123 = (refl, refl)

-- "offset 15 / 16, size 16": "address / none"
module _ (at base tag : ℕ) (w : List ℕ) (s : Segment) (found : (run at (segment base (tag_segment tag)) w).0 ≡ Some s) (sixteen : s.size ≡ 16) where
  pub offset_15 : tag_offset tag ≡ 15 → (run at (tag_to_address base tag) w).0 ≡ Some (s.offset ⊕ 15)
  offset_15 e = rw (← e) (tag_at at base tag w found (omega arith))

  pub offset_16 : tag_offset tag ≡ 16 → (run at (tag_to_address base tag) w).0 ≡ None
  offset_16 e = tag-past at base tag w found (omega arith)

-- "segment kind 7": "Bss, 3"
pub segment-kind_7 : (segment_type 7 ≡ Bss) × (segment_type_number (segment_type 7) ≡ 3)
unfolding segment_type
segment-kind_7 = (refl, refl)
