-- A relocated word that lies in the areas of each place passes the test: one that does not has a place with a gap where it stands.
use Rattle.std.specs.Prelude.{if◌then◌else◌, ℕ, ◌+◌, ◌-◌, ◌^◌, ◌≤◌, ◌<◌, ◌≡◌, ◌⊎◌, true, leb}
use Rattle.std.proofs.Math.Path.{refl}
use Rattle.std.proofs.Common.{inl, inr, ⊎_elim}
use native.Mathlib.Omega.{arith}
use Rattle.std.proofs.Math.Decide.{dec_le}
use borrow.Author.Tests.{le-leb, lt-leb}
use Rattle.window.specs.Within.{In}
use Rattle.linker_spec.specs.declared.rebase.LoadArguments.{LoadArguments}
use Rattle.writer_spec.specs.Words.{free, far_inside, word_inside}
use Rattle.writer_spec.specs.declared.words.Room.{Room}
use Rattle.writer_spec.specs.declared.words.WordPlace.{WordPlace}
use Rattle.writer_spec.specs.declared.words.WordPlace.TheVariants.{InImage, InData, InBss, Nowhere}
use Rattle.writer_laid.specs.InPlace.Places.{Holds}
use Rattle.writer_laid.specs.InPlace.Line.{past, Fitting}
use Rattle.writer_laid.specs.InPlace.Arrangement.{Arrangement, end_before, arranged, arranged-holds, data_edge_bss, gap_first, gap_after_bss}
use Rattle.writer_laid.specs.InPlace.Standing.{Stands, InAreas, InsideAll, Bounded}
use Rattle.writer_laid.specs.InPlace.Far.{FarInside, far_test}

-- of the n bytes at x, s bytes past the image's end, the address j after the one e bytes past it is e + j bytes past it
position
    : (end x n s e j : ℕ) → x ≡ past end s → s + n ≤ 2 ^ 32 → x + n < 2 ^ 32 → e + j < 2 ^ 32 → In x n (past end e + j) → In s n (e + j)
position end x n s e j a b c g i = (omega arith, omega arith)

-- what is not false is so
unless : (n m : ℕ) → ((n ≤ m → ⊥) → ⊥) → n ≤ m
unless n m h = elim (dec_le n m) [ yes k ↦ k | no k ↦ absurd (h k) ]

module _ (room : Room) where
  -- no area has the last address
  no_last : (l : LoadArguments) → Holds room l → InAreas l (2 ^ 32 - 1) → ⊥
  no_last l h (inl k) = omega (arith, h.base_below)
  no_last l h (inr (inl k)) = omega (arith, h.data_below)
  no_last l h (inr (inr k)) = omega (arith, h.bss_below)

  -- a word reaches it where its own area is topmost
  reaches-last
      : (a : Arrangement room) (w : WordPlace) → InsideAll room w → (p : ℕ) → Stands (arranged room a) w p → In p 4 (2 ^ 32 - 1) → ⊥
  reaches-last a w inside p h i =
      let g = arranged-holds room a in no_last (arranged room a) g (inside (arranged room a) g p h (2 ^ 32 - 1) i)

  -- an address of the areas that is e + j bytes past the image's end is one of data or bss
  on_line
      : (a : Arrangement room) (e j : ℕ) → e + j + room.size < 2 ^ 32 → InAreas (arranged room a) (past (end_before a.edge) e + j)
      → In a.data_start room.data_size (e + j) ⊎ In a.bss_start room.bss_size (e + j)
  on_line a e j b (inl k) = absurd (omega (arith, a.edge_before))
  on_line a e j b (inr (inl k)) =
      inl
      (position (end_before a.edge) (arranged room a).data_segment room.data_size a.data_start e j refl (omega (arith, a.data_before))
      (arranged-holds room a).data_below (omega arith) k)
  on_line a e j b (inr (inr k)) =
      inr
      (position (end_before a.edge) (arranged room a).bss_segment room.bss_size a.bss_start e j refl (omega (arith, a.bss_before))
      (arranged-holds room a).bss_below (omega arith) k)

  module _ (fits : Fitting room) where
    -- a word past the image's end: wherever the gap is, it is not there
    far_only : (c : ℕ) → room.size < c → Bounded room (InImage c) → InsideAll room (InImage c) → FarInside room (c - room.size)
    far_only c m b inside =
        record {
          after_gap = unless (free room) e before;
          in_data = unless (e + 4) room.data_size after_data;
          in_bss = elim (dec_le (e + 4) room.bss_size) [
            | yes k ↦ inl k
            | no k ↦ inr (unless (room.bss_size + free room) e (after_bss k))
          ];
        }
      where
        e : ℕ
        e = c - room.size

        short : e + 2 ≤ room.data_size
        short = omega (arith, b.1 (omega arith))

        covered
            : (a : Arrangement room) (j : ℕ) → j < 4
            → In a.data_start room.data_size (e + j) ⊎ In a.bss_start room.bss_size (e + j)
        covered a j h =
            on_line a e j (omega (arith, short))
            (inside (arranged room a) (arranged-holds room a) (past (end_before a.edge) e) (omega (arith, a.edge_before))
            (past (end_before a.edge) e + j) (omega arith, omega arith))

        before : (free room ≤ e → ⊥) → ⊥
        before k = ⊎_elim (λ (i : In _ _ _). omega (arith, i)) (λ (i : In _ _ _). omega (arith, i)) (covered (gap_first room fits) 0 (omega arith))

        after_data : (e + 4 ≤ room.data_size → ⊥) → ⊥
        after_data k =
            ⊎_elim (λ (i : In _ _ _). omega (arith, i, short)) (λ (i : In _ _ _). omega (arith, i, short))
            (covered (data_edge_bss room fits) (room.data_size - e) (omega (arith, short)))

        after_bss : (e + 4 ≤ room.bss_size → ⊥) → (room.bss_size + free room ≤ e → ⊥) → ⊥
        after_bss k g =
            ⊎_elim (λ (i : In _ _ _). omega (arith, i)) (λ (i : In _ _ _). omega (arith, i))
            (covered (gap_after_bss room fits) (room.bss_size - e) (omega arith))

    -- by the area in which it stands, put topmost
    pub inside_only : (w : WordPlace) → Bounded room w → InsideAll room w → word_inside room w ≡ true
    unfolding word_inside
    inside_only Nowhere b inside = refl
    inside_only (InData t) b inside = le-leb (t + 4) room.data_size (unless (t + 4) room.data_size data_top)
      where
        data_top : (t + 4 ≤ room.data_size → ⊥) → ⊥
        data_top k =
            reaches-last (data_edge_bss room fits) (InData t) inside (end_before room.data_size + t) (omega arith) (omega arith, omega arith)
    inside_only (InBss t) b inside = le-leb (t + 4) room.bss_size (unless (t + 4) room.bss_size bss_top)
      where
        bss_top : (t + 4 ≤ room.bss_size → ⊥) → ⊥
        bss_top k =
            reaches-last (gap_after_bss room fits) (InBss t) inside (end_before room.bss_size + t) (omega arith) (omega arith, omega arith)
    inside_only (InImage c) b inside = go (dec_le c room.size)
      where
        image_top : c ≤ room.size → (c + 4 ≤ room.size → ⊥) → ⊥
        image_top m k =
            reaches-last (gap_first room fits) (InImage c) inside (end_before room.size + c) (omega arith) (omega arith, omega arith)

        go : Dec (c ≤ room.size) → (if leb c room.size then leb (c + 4) room.size else far_inside room (c - room.size)) ≡ true
        go (yes m) = rw (le-leb c room.size m) (le-leb (c + 4) room.size (unless (c + 4) room.size (image_top m)))
        go (no m) = rw (lt-leb c room.size (omega arith)) (far_test room (c - room.size) (far_only c (omega arith) b inside))
