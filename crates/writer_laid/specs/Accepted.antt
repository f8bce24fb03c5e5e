-- Document 02, Ask 1: "an accepted description always makes an image well laid wherever it and lent areas of at least its Data and Bss segments'
-- sizes start above 0, end below 2^32 and are disjoint".
use Rattle.std.specs.Prelude.{ℕ, ◌+◌, ◌^◌, ◌≤◌, ◌<◌, ◌≡◌, List, true}
use Rattle.window.specs.Within.{In}
use Rattle.layout.specs.declared.format.SegmentType.{SegmentType}
use Rattle.layout.specs.declared.format.SegmentType.TheVariants.{Data, Bss}
use Rattle.linker_spec.specs.declared.rebase.LoadArguments.{LoadArguments}
use Rattle.history.specs.Image.{segments, count, file_segment}
use Rattle.history.specs.LoadedModule.{Image, loaded}
use Rattle.history.specs.WellLaid.{WellLaid}
use Rattle.writer_spec.specs.Description.{file_of, packed, named, image_size, image_of}

-- no address lies in both ranges; an empty one is disjoint from all
abbrev pub Disjoint : (p n q m : ℕ) → Type 0
Disjoint p n q m = (x : ℕ) → In p n x → In q m x → ⊥

-- every segment of that kind has at most n bytes
abbrev pub AtMost : List ℕ → SegmentType → ℕ → Type 0
AtMost d k n = (i : ℕ) → i < count (file_of d) segments → (file_segment (file_of d) i).kind ≡ k → (file_segment (file_of d) i).size ≤ n

-- a place: "it and lent areas of at least its Data and Bss segments' sizes start above 0, end below 2^32 and are disjoint"
pub record Fits (d : List ℕ) (l : LoadArguments) : Type 0 where
  pub whole : l.size ≡ image_size d
  pub data_enough : AtMost d Data l.data_segment_size
  pub bss_enough : AtMost d Bss l.bss_segment_size
  pub base_above : 0 < l.base
  pub data_above : 0 < l.data_segment
  pub bss_above : 0 < l.bss_segment
  pub base_below : l.base + l.size < 2 ^ 32
  pub data_below : l.data_segment + l.data_segment_size < 2 ^ 32
  pub bss_below : l.bss_segment + l.bss_segment_size < 2 ^ 32
  pub image_data : Disjoint l.base l.size l.data_segment l.data_segment_size
  pub image_bss : Disjoint l.base l.size l.bss_segment l.bss_segment_size
  pub data_bss : Disjoint l.data_segment l.data_segment_size l.bss_segment l.bss_segment_size

-- the image as a load brings it there
abbrev pub placed : List ℕ → LoadArguments → Image
placed d l = record { load_call = loaded l true 0; file = file_of (image_of d) }

-- "It refuses exactly a description not packed so, with a name above 512 bytes or holding a zero, or whose image has no such place or is not well
-- laid in each (6)": what is left is accepted
pub record Accepted (d : List ℕ) : Type 0 where
  pub is_packed : packed d ≡ true
  pub is_named : named d ≡ true
  pub has_place : (l : LoadArguments) × Fits d l
  pub well_laid : (l : LoadArguments) → Fits d l → WellLaid (placed d l)
