-- Where the segments of an image are in a place, and the addresses that its tags give.
use Prim.Native.Nat.{ℕ, zero, suc, ◌+◌, ◌≤◌, ◌<◌}
use Rattle.std.proofs.Math.Path.{◌≡◌, refl}
use Rattle.std.proofs.Common.{◌∙◌, arith}
use Rattle.std.specs.Prelude.{◌≢◌, Bool, ◌&&◌, Some, None}
use Rattle.std.proofs.Math.Bool.{true, false}
use Rattle.std.proofs.Math.Decide.{ℕ_discrete}
use Rattle.std.proofs.Math.Dec.{ltb}
use borrow.Author.Tests.{lt-ltb, ltb-true, ne_eqb}
use Rattle.window.specs.Memory.{◌⊕◌}
use Rattle.window.specs.Mirror.{word}
use Rattle.window.specs.Tests.{both}
use Rattle.layout.specs.Header.{on_unresolved_segment_tag}
use Rattle.layout.specs.Format.{tag_segment, tag_offset}
use Rattle.layout.specs.Segments.{address_in}
use Rattle.layout.specs.declared.format.SegmentType.{SegmentType}
use Rattle.layout.specs.declared.format.SegmentType.TheVariants.{Code, RoData, Data, Bss}
use Rattle.linker_spec.specs.declared.rebase.LoadArguments.{LoadArguments}
use Rattle.linker_spec.specs.Relocation.{write_place}
use Rattle.history.specs.Image.{segments, count, file_segment}
use Rattle.history.specs.LoadedModule.{Image, loaded, moved_offset, loaded_place, place_of, old_for, old_among, segment_place, old_place, placed_segment, address, handler}
use Rattle.writer_spec.specs.Description.{in_file}
use Rattle.writer_spec.specs.Words.{external_in, internal_in, data_bytes, data_room, last_data, room_of, usable}
use Rattle.writer_spec.specs.declared.words.Room.{Room}
use Rattle.writer_spec.specs.declared.words.WordPlace.{WordPlace}
use Rattle.writer_spec.specs.declared.words.WordPlace.TheVariants.{InImage}
use Rattle.writer_laid.specs.InPlace.Places.{Holds, data_room_lem, bss_room_lem}
use Rattle.writer_laid.specs.InPlace.Standing.{Stands, Bounded}

-- its segments with bytes lie between header and that end
abbrev pub SegmentsIn : (ℕ → ℕ) → ℕ → Type 0
SegmentsIn G end =
    (i : ℕ) → i < count G segments → in_file (file_segment G i).kind ≡ true
    → (0x138 ≤ (file_segment G i).offset) × ((file_segment G i).offset + (file_segment G i).size ≤ end)

-- an image of that file in that place
abbrev pub image_at : (ℕ → ℕ) → LoadArguments → Image
image_at G l = record { load_call = loaded l true 0; file = G }

-- the word at a tag: as the external table writes it, and as the internal one does
abbrev pub external_at : (ℕ → ℕ) → ℕ → WordPlace
external_at G t = external_in (file_segment G (tag_segment t)).kind (file_segment G (tag_segment t)).offset (tag_offset t)

abbrev pub internal_at : (ℕ → ℕ) → ℕ → WordPlace
internal_at G t =
    internal_in (file_segment G (tag_segment t)).kind (file_segment G (tag_segment t)).offset (last_data G (count G segments)) (tag_offset t)

module _ (G : ℕ → ℕ) (l : LoadArguments) where
  abbrev a : Image
  a = image_at G l

  -- the address of a tag, and where the internal table writes
  abbrev pub address_at : ℕ → ℕ
  address_at t = segment_place a (tag_segment t) ⊕ tag_offset t

  abbrev pub written_at : ℕ → ℕ
  written_at t = write_place (file_segment G (tag_segment t)).kind (old_place a) (tag_offset t) (address_at t)

  -- what the test of a tag says
  usable-parts : (t : ℕ) → usable G t ≡ true → (tag_segment t < count G segments) × (tag_offset t < (file_segment G (tag_segment t)).size)
  unfolding usable
  usable-parts t h = let g = both _ _ h in (ltb-true _ _ g.0, ltb-true _ _ g.1)

  -- a usable tag, and no other, gives an address
  pub address-usable : (t : ℕ) → usable G t ≡ true → address a t ≡ Some (address_at t)
  unfolding address placed_segment address_in
  address-usable t h =
      let g = usable-parts t h in
      rw (lt-ltb (tag_segment t) (count G segments) g.0, address_in, lt-ltb (tag_offset t) (file_segment G (tag_segment t)).size g.1)

  address_unusable : (t : ℕ) → usable G t ≡ false → address a t ≡ None
  unfolding address placed_segment address_in usable
  address_unusable t h = go (ltb (tag_segment t) (count G segments)) refl (ltb (tag_offset t) (file_segment G (tag_segment t)).size) refl h
    where
      go
          : (b : Bool) → ltb (tag_segment t) (count G segments) ≡ b → (c : Bool) → ltb (tag_offset t) (file_segment G (tag_segment t)).size ≡ c
          → (b && c) ≡ false
          → address a t ≡ None
      go false e c f g = rw (e, address_in)
      go true e false f g = rw (e, address_in, f)
      go true e true f g = let z : ◌≡◌ {A = Bool} true false = g in cc

  -- a tag that gives an address is usable
  pub address-at : (t p : ℕ) → address a t ≡ Some p → (usable G t ≡ true) × (p ≡ address_at t)
  address-at t p e = go (usable G t) refl
    where
      go : (b : Bool) → usable G t ≡ b → (usable G t ≡ true) × (p ≡ address_at t)
      go true f = let g = address-usable t f in (f, (cc))
      go false f = let g = address_unusable t f in absurd (let z : ◌≡◌ {A = ℕ} 0 1 = cc in omega arith)

  module _ (size : ℕ) (holds : Holds (room_of G size) l) (segments_in : SegmentsIn G size) where
    abbrev room : Room
    room = room_of G size

    -- a segment of a kind with bytes lies in the image
    in_image
        : (i : ℕ) → i < count G segments → (k : SegmentType) → (file_segment G i).kind ≡ k → in_file k ≡ true
        → (0x138 ≤ (file_segment G i).offset) × ((file_segment G i).offset + (file_segment G i).size ≤ size)
    in_image i b k e f = segments_in i b (rw e f)

    -- "Other segments with offset above 0 move by the base"
    moved : (x t : ℕ) → 0 < x → Stands l (InImage (x + t)) (moved_offset l.base x ⊕ t)
    unfolding moved_offset
    moved x t g = rw (ne_eqb x 0 (omega arith)) (omega arith)

    -- an offset of a segment in its place
    segment_stands
        : (i t : ℕ) → i < count G segments → t < (file_segment G i).size
        → Stands l (external_in (file_segment G i).kind (file_segment G i).offset t) (segment_place a i ⊕ t)
    unfolding segment_place place_of loaded_place
    segment_stands i t b g = go (file_segment G i).kind refl
      where
        go
            : (k : SegmentType) → (file_segment G i).kind ≡ k
            → Stands l (external_in k (file_segment G i).offset t) (loaded_place l (file_segment G i) k ⊕ t)
        go Code e = moved _ t (omega (arith, (in_image i b Code e refl).0))
        go RoData e = moved _ t (omega (arith, (in_image i b RoData e refl).0))
        go Data e =
            rw (ne_eqb (file_segment G i).size 0 (omega arith))
            (omega (arith, data_room_lem G (count G segments) i b e, holds.data_enough, holds.data_below))
        go Bss e =
            rw (ne_eqb (file_segment G i).size 0 (omega arith))
            (omega (arith, bss_room_lem G (count G segments) i b e, holds.bss_enough, holds.bss_below))

    -- and its bounds
    segment_bounded
        : (i t : ℕ) → i < count G segments → t < (file_segment G i).size
        → Bounded room (external_in (file_segment G i).kind (file_segment G i).offset t)
    segment_bounded i t b g = go (file_segment G i).kind refl
      where
        go : (k : SegmentType) → (file_segment G i).kind ≡ k → Bounded room (external_in k (file_segment G i).offset t)
        go Code e = let f = in_image i b Code e refl in (omega arith, λ m. absurd (omega arith))
        go RoData e = let f = in_image i b RoData e refl in (omega arith, λ m. absurd (omega arith))
        go Data e = omega (arith, data_room_lem G (count G segments) i b e)
        go Bss e = omega (arith, bss_room_lem G (count G segments) i b e)

    -- the last Data segment of size above 0, from which both count
    record LastData (n : ℕ) : Type 0 where
      index : ℕ
      below : index < n
      is_data : (file_segment G index).kind ≡ Data
      some : 0 < (file_segment G index).size
      starts : last_data G n ≡ (file_segment G index).offset
      old : old_among n (loaded l true 0) (file_segment G) ≡ (file_segment G index).offset ⊕ l.base

    -- there is one where there is data
    last_data_lem : (n : ℕ) → 0 < data_room G n → LastData n
    unfolding data_room last_data old_among old_for
    last_data_lem zero g = absurd (omega arith)
    last_data_lem (suc n) g = go (file_segment G n).kind refl (ℕ_discrete (file_segment G n).size 0) (last_data_lem n)
      where
        before : ℕ
        before = old_among n (loaded l true 0) (file_segment G)

        -- one more segment that is none, and what that means of its kind and size
        more
            : last_data G (suc n) ≡ last_data G n → old_for (file_segment G n) (file_segment G n).kind l.base before ≡ before → LastData n
            → LastData (suc n)
        more start same r =
            record {
              index = r.index;
              below = omega (arith, r.below);
              is_data = r.is_data;
              some = r.some;
              starts = start ∙ r.starts;
              old = same ∙ r.old;
            }

        skip
            : data_bytes (file_segment G n).kind (file_segment G n).size ≡ 0
            → old_for (file_segment G n) (file_segment G n).kind l.base before ≡ before
            → (0 < data_room G n → LastData n)
            → LastData (suc n)
        skip none same earlier = more (rw none) same (earlier (omega (arith, none, g)))

        go : (k : SegmentType) → (file_segment G n).kind ≡ k → Dec ((file_segment G n).size ≡ 0) → (0 < data_room G n → LastData n) → LastData (suc n)
        go Code e d earlier = skip (rw e) (rw e) earlier
        go RoData e d earlier = skip (rw e) (rw e) earlier
        go Bss e d earlier = skip (rw e) (rw e) earlier
        go Data e (yes d) earlier = skip (rw (e, d)) (rw (e, old_for, d)) earlier
        go Data e (no d) earlier =
            record {
              index = n;
              below = omega arith;
              is_data = e;
              some = omega arith;
              starts = rw (e, ne_eqb (file_segment G n).size 0 d);
              old = rw (e, old_for, ne_eqb (file_segment G n).size 0 d);
            }

    -- a word that the internal table writes: into Data at the old place
    written_stands
        : (i t : ℕ) → i < count G segments → t < (file_segment G i).size
        → Stands l (internal_in (file_segment G i).kind (file_segment G i).offset (last_data G (count G segments)) t)
        (write_place (file_segment G i).kind (old_place a) t (segment_place a i ⊕ t))
    unfolding write_place old_place
    written_stands i t b g = go (file_segment G i).kind refl (segment_stands i t b g)
      where
        data_old : LastData (count G segments) → Stands l (InImage (last_data G (count G segments) + t)) (old_place a ⊕ t)
        data_old r = omega (arith, r.starts, r.old)

        go
            : (k : SegmentType) → (file_segment G i).kind ≡ k → Stands l (external_in k (file_segment G i).offset t) (segment_place a i ⊕ t)
            → Stands l (internal_in k (file_segment G i).offset (last_data G (count G segments)) t) (write_place k (old_place a) t (segment_place a i ⊕ t))
        go Code e f = f
        go RoData e f = f
        go Data e f = data_old (last_data_lem (count G segments) (omega (arith, data_room_lem G (count G segments) i b e)))
        go Bss e f = f

    -- and its bounds: less than a Data segment past the start of another, which is before the image's end
    written_bounded
        : (i t : ℕ) → i < count G segments → t < (file_segment G i).size
        → Bounded room (internal_in (file_segment G i).kind (file_segment G i).offset (last_data G (count G segments)) t)
    written_bounded i t b g = go (file_segment G i).kind refl (segment_bounded i t b g)
      where
        data_old : t < data_room G (count G segments) → LastData (count G segments) → Bounded room (InImage (last_data G (count G segments) + t))
        data_old m r =
            let f = in_image r.index r.below Data r.is_data refl in
            (omega (arith, r.starts), λ n. omega (arith, r.starts, r.some))

        go
            : (k : SegmentType) → (file_segment G i).kind ≡ k → Bounded room (external_in k (file_segment G i).offset t)
            → Bounded room (internal_in k (file_segment G i).offset (last_data G (count G segments)) t)
        go Code e f = f
        go RoData e f = f
        go Data e f = data_old f (last_data_lem (count G segments) (omega arith))
        go Bss e f = f

    -- so of usable tags
    pub external_stands : (t : ℕ) → usable G t ≡ true → Stands l (external_at G t) (address_at t)
    external_stands t u = let g = usable-parts t u in segment_stands (tag_segment t) (tag_offset t) g.0 g.1

    pub external_bounded : (t : ℕ) → usable G t ≡ true → Bounded room (external_at G t)
    external_bounded t u = let g = usable-parts t u in segment_bounded (tag_segment t) (tag_offset t) g.0 g.1

    pub internal_stands : (t : ℕ) → usable G t ≡ true → Stands l (internal_at G t) (written_at t)
    internal_stands t u = let g = usable-parts t u in written_stands (tag_segment t) (tag_offset t) g.0 g.1

    pub internal_bounded : (t : ℕ) → usable G t ≡ true → Bounded room (internal_at G t)
    internal_bounded t u = let g = usable-parts t u in written_bounded (tag_segment t) (tag_offset t) g.0 g.1

    -- a usable tag's address is not 0
    segment_above
        : (i t : ℕ) → i < count G segments → t < (file_segment G i).size → 0 < segment_place a i ⊕ t
    segment_above i t b g = go (file_segment G i).kind refl (segment_stands i t b g)
      where
        near
            : (o : ℕ) → o + (file_segment G i).size ≤ size → Stands l (InImage (o + t)) (segment_place a i ⊕ t) → 0 < segment_place a i ⊕ t
        near o f s = omega (arith, holds.base_above, holds.base_below, holds.whole)

        go
            : (k : SegmentType) → (file_segment G i).kind ≡ k → Stands l (external_in k (file_segment G i).offset t) (segment_place a i ⊕ t)
            → 0 < segment_place a i ⊕ t
        go Code e s = near _ (in_image i b Code e refl).1 s
        go RoData e s = near _ (in_image i b RoData e refl).1 s
        go Data e s = omega (arith, holds.data_above)
        go Bss e s = omega (arith, holds.bss_above)

    -- "Its handler address is not 0": exactly if its tag is usable
    pub handler-there : usable G (word G on_unresolved_segment_tag) ≡ true → handler a ≢ 0
    unfolding handler
    handler-there u e =
        let g = usable-parts (word G on_unresolved_segment_tag) u in
        let f : address_at (word G on_unresolved_segment_tag) ≡ 0 = rw (address-usable (word G on_unresolved_segment_tag) u) at e in
        omega (arith, segment_above (tag_segment (word G on_unresolved_segment_tag)) (tag_offset (word G on_unresolved_segment_tag)) g.0 g.1)

    pub handler-usable : handler a ≢ 0 → usable G (word G on_unresolved_segment_tag) ≡ true
    unfolding handler
    handler-usable n = go (usable G (word G on_unresolved_segment_tag)) refl
      where
        go : (b : Bool) → usable G (word G on_unresolved_segment_tag) ≡ b → usable G (word G on_unresolved_segment_tag) ≡ true
        go true f = f
        go false f = absurd (n (rw (address_unusable (word G on_unresolved_segment_tag) f)))
