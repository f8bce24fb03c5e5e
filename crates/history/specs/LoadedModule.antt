-- An image in its place: the call that brought it and its own bytes; where its segments, exports and areas are.
use Rattle.std.specs.Prelude.{if◌then◌else◌, ℕ, zero, suc, ◌+◌, ◌<◌, List, Bool, true, false, ◌⊎◌, eqb, ltb, Option, Some, None}
use Rattle.window.specs.Memory.{◌⊕◌}
use Rattle.window.specs.Within.{In}
use Rattle.window.specs.Mirror.{word}
use Rattle.layout.specs.Header.{on_unresolved_segment_tag}
use Rattle.layout.specs.Format.{tag_segment, tag_offset}
use Rattle.layout.specs.Segments.{address_in}
use Rattle.layout.specs.declared.format.Segment.{Segment}
use Rattle.layout.specs.declared.format.SegmentType.{SegmentType}
use Rattle.layout.specs.declared.format.SegmentType.TheVariants.{Code, RoData, Data, Bss}
use Rattle.register.specs.Words.{same}
use Rattle.linker_spec.specs.Rebase.{at_offset}
use Rattle.linker_spec.specs.declared.rebase.LoadArguments.{LoadArguments}
use Rattle.linker_spec.specs.Relocation.{address_or0}
use Rattle.history.specs.Image.{segments, named_exports, indexed_exports, count, entry, name_of, file_segment}

-- the two calls that bring a module, with their arguments: "Its places and parameters are that call's arguments."
pub data LoadCall : Type 0 where
  initialized : ℕ → ℕ → LoadCall
  loaded : LoadArguments → Bool → ℕ → LoadCall

abbrev pub base_of : LoadCall → ℕ
base_of (initialized base size) = base
base_of (loaded l auto level) = l.base

abbrev pub size_of : LoadCall → ℕ
size_of (initialized base size) = size
size_of (loaded l auto level) = l.size

abbrev pub is_crs : LoadCall → Bool
is_crs (initialized base size) = true
is_crs (loaded l auto level) = false

-- the call's arguments, and the image's bytes by offset
pub record Image : Type 0 where
  pub load_call : LoadCall
  pub file : ℕ → ℕ

-- "Other segments with offset above 0 move by the base"
unfoldable pub moved_offset : ℕ → ℕ → ℕ
moved_offset base x = if eqb x 0 then 0 else x ⊕ base

-- "Data or Bss of size above 0 takes the lent address"
unfoldable pub loaded_place : LoadArguments → Segment → SegmentType → ℕ
loaded_place l s Code = moved_offset l.base s.offset
loaded_place l s RoData = moved_offset l.base s.offset
loaded_place l s Data = if eqb s.size 0 then moved_offset l.base s.offset else l.data_segment
loaded_place l s Bss = if eqb s.size 0 then moved_offset l.base s.offset else l.bss_segment

-- "segments placed as that call's steps place them"; "`initialize` neither changes nor checks segments"
unfoldable pub place_of : LoadCall → Segment → ℕ
place_of (initialized base size) s = s.offset
place_of (loaded l auto level) s = loaded_place l s s.kind

-- "The old place counts from the last Data segment of size above 0"
unfoldable pub old_for : Segment → SegmentType → ℕ → ℕ → ℕ
old_for s Data base old = if eqb s.size 0 then old else s.offset ⊕ base
old_for s Code base old = old
old_for s RoData base old = old
old_for s Bss base old = old

-- "from address 0 in `initialize`": among the first n segments
unfoldable pub old_among : ℕ → LoadCall → (ℕ → Segment) → ℕ
old_among n (initialized base size) s = 0
old_among zero (loaded l auto level) s = 0
old_among (suc n) (loaded l auto level) s = old_for (s n) (s n).kind l.base (old_among n (loaded l auto level) s)

-- "A later export of the same name replaces an earlier one; an unusable tag replaces nothing."
unfoldable pub later_export : Bool → Option ℕ → Option ℕ → Option ℕ
later_export true (Some p) earlier = Some p
later_export true None earlier = earlier
later_export false x earlier = earlier

module _ (m : Image) where
  abbrev F : ℕ → ℕ
  F = m.file

  unfoldable pub segment_place : ℕ → ℕ
  segment_place i = place_of m.load_call (file_segment F i)

  unfoldable pub old_place : ℕ
  old_place = old_among (count F segments) m.load_call (file_segment F)

  -- segment i in its place
  unfoldable pub placed_segment : ℕ → Option Segment
  placed_segment i = if ltb i (count F segments) then Some (at_offset (file_segment F i) (segment_place i)) else None

  -- the address that a tag gives
  unfoldable pub address : ℕ → Option ℕ
  address t = address_in (placed_segment (tag_segment t)) (tag_offset t)

  unfoldable pub handler : ℕ
  handler = address_or0 (address (word F on_unresolved_segment_tag))

  -- "Its areas are the size bytes from its base and the lent data and bss"; a CRS's "are its image and its segments' ranges"
  unfoldable pub LentArea : LoadCall → ℕ → Type 0
  LentArea (initialized base size) q =
      (i : ℕ) × (i < count F segments) × In (segment_place i) (file_segment F i).size q
  LentArea (loaded l auto level) q = In l.data_segment l.data_segment_size q ⊎ In l.bss_segment l.bss_segment_size q

  unfoldable pub Area : ℕ → Type 0
  Area q = In (base_of m.load_call) (size_of m.load_call) q ⊎ LentArea m.load_call q

  -- named export i: its name, and its address if the tag is usable
  unfoldable pub export_name : ℕ → List ℕ
  export_name i = name_of F (word F (entry F named_exports i))

  unfoldable pub export_address : ℕ → Option ℕ
  export_address i = address (word F (entry F named_exports i + 4))

  -- the export of that name among the first n
  unfoldable pub export_among : ℕ → List ℕ → Option ℕ
  export_among zero name = None
  export_among (suc n) name = later_export (same name (export_name n)) (export_address n) (export_among n name)

  -- "A named export with an unusable tag does not exist"
  unfoldable pub export_of : List ℕ → Option ℕ
  export_of name = export_among (count F named_exports) name

  -- "An indexed export exists if the index is below the count"; with an unusable tag "an indexed one has address 0"
  unfoldable pub indexed_of : ℕ → Option ℕ
  indexed_of i = if ltb i (count F indexed_exports) then Some (address_or0 (address (word F (entry F indexed_exports i)))) else None

  -- "An anonymous export exists if its segment does, and is that segment's address + offset, size untested."
  unfoldable pub anonymous_of : ℕ → Option ℕ
  anonymous_of t = if ltb (tag_segment t) (count F segments) then Some (segment_place (tag_segment t) ⊕ tag_offset t) else None

-- "Bytes when loaded are those just before that call .."
pub record LoadedModule : Type 0 where
  pub load_call : LoadCall
  pub bytes : ℕ → ℕ

-- the image's own bytes, 0 past its size
unfoldable pub cut : LoadCall → (ℕ → ℕ) → ℕ → ℕ
cut c M o = if ltb o (size_of c) then M (base_of c + o) else 0

abbrev pub image_of : LoadedModule → Image
image_of a = record { load_call = a.load_call; file = cut a.load_call a.bytes }
