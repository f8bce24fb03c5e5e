-- The addresses counted from the image's end on, round the address space: where the lent areas of a place start on this line, and that image and
-- lent areas fit between 0 and 2^32 - 1.
use Rattle.std.specs.Prelude.{ℕ, ◌+◌, ◌-◌, ◌%◌, ◌^◌, ◌≤◌, ◌<◌, ◌≡◌, ◌⊎◌}
use Rattle.std.proofs.Common.{inl, inr, ⊎_elim, arith}
use Rattle.std.proofs.Math.Decide.{ℕ_discrete, dec_le}
use Rattle.linker_spec.specs.declared.rebase.LoadArguments.{LoadArguments}
use Rattle.writer_spec.specs.Words.{free}
use Rattle.writer_spec.specs.declared.words.Room.{Room}
use Rattle.writer_laid.specs.InPlace.Places.{Apart, Holds}

-- where the image ends
abbrev pub end_of : LoadArguments → ℕ
end_of l = l.base + l.size

-- the address that many bytes past an end, round the address space
abbrev pub past : (end distance : ℕ) → ℕ
past end distance = (end + distance) % 2 ^ 32

-- image and lent areas fit between 0 and 2^32 - 1
abbrev pub Fitting : Room → Type 0
Fitting room = room.size + (room.data_size + room.bss_size) + 2 ≤ 2 ^ 32

-- of two ranges neither of which is empty, one ends before the other starts
ordered : {p n q m : ℕ} → 0 < n → 0 < m → Apart p n q m → (p + n ≤ q) ⊎ (q + m ≤ p)
ordered a b (inl e) = absurd (omega arith)
ordered a b (inr (inl e)) = absurd (omega arith)
ordered a b (inr (inr h)) = h

-- n bytes at address x, apart from the image: how far past the image's end they start, before the image comes again
record Start (base size x n : ℕ) : Type 0 where
  distance : ℕ
  there : x ≡ past (base + size) distance
  before : distance + n + size ≤ 2 ^ 32

start_of : (base size x n : ℕ) → base + size < 2 ^ 32 → x + n < 2 ^ 32 → (base + size ≤ x) ⊎ (x + n ≤ base) → Start base size x n
start_of base size x n b g (inl h) = record { distance = x - (base + size); there = omega arith; before = omega arith }
start_of base size x n b g (inr h) =
    record { distance = x + (2 ^ 32 - (base + size)); there = omega arith; before = omega arith }

-- n bytes at x and m at y, s and u past the end, in the order in which they come on the line
line_order
    : (end x n y m s u : ℕ) → x ≡ past end s → y ≡ past end u → s + n ≤ 2 ^ 32 → u + m ≤ 2 ^ 32 → x + n < 2 ^ 32 → y + m < 2 ^ 32
    → 0 < n → 0 < m → (x + n ≤ y) ⊎ (y + m ≤ x)
    → (s + n ≤ u) ⊎ (u + m ≤ s)
line_order end x n y m s u a b f g c d i j h = go h (dec_le s u)
  where
    go : (x + n ≤ y) ⊎ (y + m ≤ x) → Dec (s ≤ u) → (s + n ≤ u) ⊎ (u + m ≤ s)
    go (inl h) (yes k) = inl (omega arith)
    go (inl h) (no k) = inr (omega arith)
    go (inr h) (yes k) = inl (omega arith)
    go (inr h) (no k) = inr (omega arith)

module _ (room : Room) where
  -- where data, s past the image's end, and bss, u past it, can start
  pub data Order (s u : ℕ) : Type 0 where
    data_first : s ≤ free room → (0 < room.bss_size → room.data_size ≤ u) → Order s u
    bss_first : u ≤ free room → room.bss_size ≤ s → s ≤ room.bss_size + free room → Order s u

  -- how far past the image's end the lent areas of a place start; that of an empty bss is free
  pub record Starts (l : LoadArguments) : Type 0 where
    pub data_start : ℕ
    pub bss_start : ℕ
    pub data_at : l.data_segment ≡ past (end_of l) data_start
    pub bss_at : 0 < room.bss_size → l.bss_segment ≡ past (end_of l) bss_start
    pub order : Order data_start bss_start

  module _ (l : LoadArguments) (h : Holds room l) (image : 0 < room.size) where
    image_some : 0 < l.size
    image_some = omega (arith, h.whole)

    abbrev DataStart : Type 0
    DataStart = Start l.base l.size l.data_segment l.data_segment_size

    abbrev BssStart : Type 0
    BssStart = Start l.base l.size l.bss_segment l.bss_segment_size

    -- a lent area that is not empty has a start on the line
    data_starts : 0 < l.data_segment_size → DataStart
    data_starts a = start_of _ _ _ _ h.base_below h.data_below (ordered image_some a h.image_data)

    bss_starts : 0 < l.bss_segment_size → BssStart
    bss_starts a = start_of _ _ _ _ h.base_below h.bss_below (ordered image_some a h.image_bss)

    -- the starts of both, where there is data
    pub lent_starts : 0 < room.data_size → Starts l
    lent_starts a = go (data_starts data_some) (ℕ_discrete l.bss_segment_size 0)
      where
        data_some : 0 < l.data_segment_size
        data_some = omega (arith, h.data_enough)

        ordering
            : (s u : ℕ) → s + l.data_segment_size + l.size ≤ 2 ^ 32 → u + l.bss_segment_size + l.size ≤ 2 ^ 32
            → (s + l.data_segment_size ≤ u) ⊎ (u + l.bss_segment_size ≤ s)
            → Order s u
        ordering s u b c (inl k) = data_first (omega (arith, h.whole, h.data_enough, h.bss_enough)) (λ e. omega (arith, h.data_enough))
        ordering s u b c (inr k) =
            bss_first (omega (arith, h.whole, h.data_enough, h.bss_enough)) (omega (arith, h.bss_enough)) (omega (arith, h.whole, h.data_enough))

        two : DataStart → BssStart → 0 < l.bss_segment_size → Starts l
        two s u b =
            record {
              data_start = s.distance;
              bss_start = u.distance;
              data_at = s.there;
              bss_at = λ c. u.there;
              order =
                  ordering s.distance u.distance s.before u.before
                  (line_order (end_of l) _ _ _ _ s.distance u.distance s.there u.there (omega (arith, s.before)) (omega (arith, u.before))
                  h.data_below h.bss_below data_some b (ordered data_some b h.data_bss));
            }

        go : DataStart → Dec (l.bss_segment_size ≡ 0) → Starts l
        go s (yes e) =
            record {
              data_start = s.distance;
              bss_start = 0;
              data_at = s.there;
              bss_at = λ c. absurd (omega (arith, h.bss_enough));
              order =
                  data_first (omega (arith, s.before, h.whole, h.data_enough, h.bss_enough)) (λ c. absurd (omega (arith, h.bss_enough)));
            }
        go s (no n) = two s (bss_starts (omega arith)) (omega arith)

    -- image and lent areas fit between 0 and 2^32 - 1
    pub fits-between : Fitting room
    fits-between = go (ℕ_discrete l.data_segment_size 0) (ℕ_discrete l.bss_segment_size 0)
      where
        three
            : (end_of l ≤ l.data_segment) ⊎ (l.data_segment + l.data_segment_size ≤ l.base)
            → (end_of l ≤ l.bss_segment) ⊎ (l.bss_segment + l.bss_segment_size ≤ l.base)
            → (l.data_segment + l.data_segment_size ≤ l.bss_segment) ⊎ (l.bss_segment + l.bss_segment_size ≤ l.data_segment)
            → Fitting room
        three (inl x) (inl y) (inl z) = omega arith
        three (inl x) (inl y) (inr z) = omega arith
        three (inl x) (inr y) (inl z) = omega arith
        three (inl x) (inr y) (inr z) = omega arith
        three (inr x) (inl y) (inl z) = omega arith
        three (inr x) (inl y) (inr z) = omega arith
        three (inr x) (inr y) (inl z) = omega arith
        three (inr x) (inr y) (inr z) = omega arith

        go : Dec (l.data_segment_size ≡ 0) → Dec (l.bss_segment_size ≡ 0) → Fitting room
        go (yes a) (yes b) = omega arith
        go (yes a) (no b) = ⊎_elim (λ x. omega arith) (λ x. omega arith) (ordered image_some (omega arith) h.image_bss)
        go (no a) (yes b) = ⊎_elim (λ x. omega arith) (λ x. omega arith) (ordered image_some (omega arith) h.image_data)
        go (no a) (no b) =
            three (ordered image_some (omega arith) h.image_data) (ordered image_some (omega arith) h.image_bss)
            (ordered (omega arith) (omega arith) h.data_bss)
