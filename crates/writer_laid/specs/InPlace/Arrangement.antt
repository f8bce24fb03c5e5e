-- The other way round: data, bss and the two addresses that no area may have, in any order on the line past the image's end, make a place.
use Rattle.std.specs.Prelude.{ℕ, ◌+◌, ◌-◌, ◌^◌, ◌≤◌, ◌<◌, ◌≡◌, refl, ◌⊎◌, List, true, length}
use Rattle.std.proofs.Common.{inl, inr, ⊎_elim, arith}
use borrow.Author.Tests.{le-leb, leb-true}
use Rattle.linker_spec.specs.declared.rebase.LoadArguments.{LoadArguments}
use Rattle.writer_spec.specs.Words.{free, place_exists}
use Rattle.writer_spec.specs.declared.words.Room.{Room}
use Rattle.writer_laid.specs.Accepted.{Fits}
use Rattle.writer_laid.specs.InPlace.Places.{Apart, Holds, room_for, fits-holds, holds_fits}
use Rattle.writer_laid.specs.InPlace.Line.{past, Fitting, fits-between}

apart-back : {p n q m : ℕ} → Apart p n q m → Apart q m p n
apart-back (inl h) = inr (inl h)
apart-back (inr (inl h)) = inl h
apart-back (inr (inr (inl h))) = inr (inr (inr h))
apart-back (inr (inr (inr h))) = inr (inr (inl h))

-- where the image ends if the edge starts that far past its end
abbrev pub end_before : ℕ → ℕ
end_before edge = 2 ^ 32 - 1 - edge

module _ (room : Room) where
  -- how far past the image's end data, bss and the edge start, all on the line and apart; the edge is the two addresses 2^32 - 1 and 0
  pub record Arrangement : Type 0 where
    pub edge : ℕ
    pub data_start : ℕ
    pub bss_start : ℕ
    pub edge_before : edge + 2 + room.size ≤ 2 ^ 32
    pub data_before : data_start + room.data_size + room.size ≤ 2 ^ 32
    pub bss_before : bss_start + room.bss_size + room.size ≤ 2 ^ 32
    pub edge_data : (data_start + room.data_size ≤ edge) ⊎ (edge + 2 ≤ data_start)
    pub edge_bss : (bss_start + room.bss_size ≤ edge) ⊎ (edge + 2 ≤ bss_start)
    pub data_bss : (data_start + room.data_size ≤ bss_start) ⊎ (bss_start + room.bss_size ≤ data_start)

  -- it makes a place
  abbrev pub arranged : Arrangement → LoadArguments
  arranged a =
      record {
        base = 2 ^ 32 - 1 - room.size - a.edge;
        size = room.size;
        data_segment = past (end_before a.edge) a.data_start;
        data_segment_size = room.data_size;
        bss_segment = past (end_before a.edge) a.bss_start;
        bss_segment_size = room.bss_size;
      }

  -- n bytes that start s past the image's end, where the edge starts z past it
  record Placed (z s n : ℕ) : Type 0 where
    above : 0 < past (end_before z) s
    below : past (end_before z) s + n < 2 ^ 32
    off_image : Apart (2 ^ 32 - 1 - room.size - z) room.size (past (end_before z) s) n

  placed_at : (z s n : ℕ) → z + 2 + room.size ≤ 2 ^ 32 → s + n + room.size ≤ 2 ^ 32 → (s + n ≤ z) ⊎ (z + 2 ≤ s) → Placed z s n
  placed_at z s n e b (inl h) = record { above = omega arith; below = omega arith; off_image = inr (inr (inl (omega arith))) }
  placed_at z s n e b (inr h) = record { above = omega arith; below = omega arith; off_image = inr (inr (inr (omega arith))) }

  -- areas apart on the line are apart
  placed-apart
      : (z s n u m : ℕ) → z + 2 ≤ 2 ^ 32 → u + m ≤ 2 ^ 32 → (s + n ≤ z) ⊎ (z + 2 ≤ s) → (u + m ≤ z) ⊎ (z + 2 ≤ u) → s + n ≤ u
      → Apart (past (end_before z) s) n (past (end_before z) u) m
  placed-apart z s n u m e b (inl f) (inl g) h = inr (inr (inl (omega arith)))
  placed-apart z s n u m e b (inl f) (inr g) h = inr (inr (inr (omega arith)))
  placed-apart z s n u m e b (inr f) (inl g) h = absurd (omega arith)
  placed-apart z s n u m e b (inr f) (inr g) h = inr (inr (inl (omega arith)))

  pub arranged-holds : (a : Arrangement) → Holds room (arranged a)
  arranged-holds a =
      let x = placed_at a.edge a.data_start room.data_size a.edge_before a.data_before a.edge_data in
      let y = placed_at a.edge a.bss_start room.bss_size a.edge_before a.bss_before a.edge_bss in
      record {
        whole = refl;
        data_enough = omega arith;
        bss_enough = omega arith;
        base_above = omega (arith, a.edge_before);
        data_above = x.above;
        bss_above = y.above;
        base_below = omega (arith, a.edge_before);
        data_below = x.below;
        bss_below = y.below;
        image_data = x.off_image;
        image_bss = y.off_image;
        data_bss = ⊎_elim (λ h. data_then_bss h) (λ h. apart-back (bss_then_data h)) a.data_bss;
      }
    where
      data_then_bss
          : a.data_start + room.data_size ≤ a.bss_start
          → Apart (arranged a).data_segment room.data_size (arranged a).bss_segment room.bss_size
      data_then_bss h =
          placed-apart a.edge a.data_start room.data_size a.bss_start room.bss_size (omega (arith, a.edge_before))
          (omega (arith, a.bss_before)) a.edge_data a.edge_bss h

      bss_then_data
          : a.bss_start + room.bss_size ≤ a.data_start
          → Apart (arranged a).bss_segment room.bss_size (arranged a).data_segment room.data_size
      bss_then_data h =
          placed-apart a.edge a.bss_start room.bss_size a.data_start room.data_size (omega (arith, a.edge_before))
          (omega (arith, a.data_before)) a.edge_bss a.edge_data h

  -- the arrangements that are needed, by their order: all that is free goes before, between or after the lent areas, or an area starts at s or u
  module _ (fits : Fitting room) where
    abbrev pub edge_data_bss : (s : ℕ) → 2 ≤ s → s ≤ free room → Arrangement
    edge_data_bss s a b =
        record {
          edge = 0;
          data_start = s;
          bss_start = s + room.data_size;
          edge_before = omega arith;
          data_before = omega arith;
          bss_before = omega arith;
          edge_data = inr a;
          edge_bss = inr (omega arith);
          data_bss = inl (omega arith);
        }

    abbrev pub edge_bss_data : (u : ℕ) → 2 ≤ u → u ≤ free room → Arrangement
    edge_bss_data u a b =
        record {
          edge = 0;
          data_start = u + room.bss_size;
          bss_start = u;
          edge_before = omega arith;
          data_before = omega arith;
          bss_before = omega arith;
          edge_data = inr (omega arith);
          edge_bss = inr a;
          data_bss = inr (omega arith);
        }

    abbrev pub data_edge_bss : Arrangement
    data_edge_bss =
        record {
          edge = room.data_size;
          data_start = 0;
          bss_start = room.data_size + free room;
          edge_before = omega arith;
          data_before = omega arith;
          bss_before = omega arith;
          edge_data = inl (omega arith);
          edge_bss = inr (omega arith);
          data_bss = inl (omega arith);
        }

    abbrev pub bss_edge_data : (s : ℕ) → room.bss_size + 2 ≤ s → s ≤ room.bss_size + free room → Arrangement
    bss_edge_data s a b =
        record {
          edge = room.bss_size;
          data_start = s;
          bss_start = 0;
          edge_before = omega arith;
          data_before = omega arith;
          bss_before = omega arith;
          edge_data = inr a;
          edge_bss = inl (omega arith);
          data_bss = inr (omega arith);
        }

    abbrev pub bss_data_edge : Arrangement
    bss_data_edge =
        record {
          edge = room.bss_size + room.data_size;
          data_start = room.bss_size;
          bss_start = 0;
          edge_before = omega arith;
          data_before = omega arith;
          bss_before = omega arith;
          edge_data = inl (omega arith);
          edge_bss = inl (omega arith);
          data_bss = inr (omega arith);
        }

    -- the gap before both lent areas, or after bss
    abbrev pub gap_first : Arrangement
    gap_first = edge_data_bss (free room) (omega arith) (omega arith)

    abbrev pub gap_after_bss : Arrangement
    gap_after_bss = bss_edge_data (room.bss_size + free room) (omega arith) (omega arith)

-- "some place exists": exactly if image, data and bss fit
module _ (d : List ℕ) where
  pub place-exists : (l : LoadArguments) → Fits d l → 0 < length d → place_exists (room_for d) ≡ true
  unfolding place_exists
  place-exists l fits some = le-leb _ _ (fits-between (room_for d) l (fits-holds d l fits) (omega arith))

  pub some_place : place_exists (room_for d) ≡ true → (l : LoadArguments) × Fits d l
  unfolding place_exists
  some_place h =
      let a = data_edge_bss (room_for d) (leb-true _ _ h) in
      (arranged (room_for d) a, holds_fits d (arranged (room_for d) a) (arranged-holds (room_for d) a))
