-- The arguments and the segment of document 01's cases with Data size 16 and 17.
use Prim.Native.Nat.{ℕ}
use Rattle.layout.specs.declared.format.Segment.{Segment}
use Rattle.layout.specs.declared.format.SegmentType.TheVariants.{Data}
use Rattle.linker_spec.specs.declared.rebase.LoadArguments.{LoadArguments}

-- "Data size 16 / 17, lent 16": the segment gets its place / is refused
abbrev pub lent_16 : (base size data-segment bss-segment bss-segment-size : ℕ) → LoadArguments
lent_16 base size data-segment bss-segment bss-segment-size =
    record { base = base; size = size; data_segment = data-segment; data_segment_size = 16; bss_segment = bss-segment; bss_segment_size = bss-segment-size }

abbrev pub data_of : ℕ → ℕ → Segment
data_of offset n = record { offset = offset; size = n; kind = Data }
