-- Document 01, "cro/format.rs: the layout": what the numbers of segment kinds, tags and relocation kinds stand for.
use Rattle.std.specs.Prelude.{if◌then◌else◌, ◌≡◌, ℕ, ◌/◌, ◌%◌, ◌==◌, nat_eq, refl}
use Rattle.layout.specs.declared.format.SegmentType.{SegmentType}
use Rattle.layout.specs.declared.format.SegmentType.TheVariants.{Code, RoData, Data, Bss}
use Rattle.layout.specs.declared.format.RelocationType.{RelocationType}
use Rattle.layout.specs.declared.format.RelocationType.TheVariants.{Nothing, AbsoluteAddress, RelativeAddress, ThumbBranch, ArmBranch, ModifyArmBranch, AlignedRelativeAddress, Unknown}

-- "Segment kinds 0 to 3 are code, read-only, Data, Bss; above 3 reads as Bss and is written back as 3."
unfoldable pub segment_type : ℕ → SegmentType
segment_type k = if k == 0 then Code else (if nat_eq k 1 then RoData else (if nat_eq k 2 then Data else Bss))

abbrev pub segment_type_number : SegmentType → ℕ
segment_type_number Code = 0
segment_type_number RoData = 1
segment_type_number Data = 2
segment_type_number Bss = 3

pub segment_type-number : (k : SegmentType) → segment_type (segment_type_number k) ≡ k
unfolding segment_type
segment_type-number Code = refl
segment_type-number RoData = refl
segment_type-number Data = refl
segment_type-number Bss = refl

-- "A tag's low 4 bits are the segment, the rest the offset."
abbrev pub tag_segment : ℕ → ℕ
tag_segment t = t % 16

abbrev pub tag_offset : ℕ → ℕ
tag_offset t = t / 16

-- "One match on the kind number: 0, 2 or 10, 3, 4, 5, 6, 42 and the rest, giving an enum of kinds."
unfoldable pub relocation_type : ℕ → RelocationType
relocation_type k =
    if k == 0 then Nothing else
    (if nat_eq k 2 then AbsoluteAddress else
    (if nat_eq k 10 then AbsoluteAddress else
    (if nat_eq k 3 then RelativeAddress else
    (if nat_eq k 4 then ThumbBranch else
    (if nat_eq k 5 then ArmBranch else
    (if nat_eq k 6 then ModifyArmBranch else
    (if nat_eq k 42 then AlignedRelativeAddress else Unknown k)))))))
