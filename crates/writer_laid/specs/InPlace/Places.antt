-- A place in numbers: which rooms it has, and that there is one exactly if image, data and bss fit between 0 and 2^32 - 1.
use Prim.Native.Nat.{ℕ, zero, suc, ◌+◌, ◌^◌, ◌≤◌, ◌<◌, max}
use Rattle.std.specs.Prelude.{◌≡◌, ◌⊎◌, List}
use Rattle.std.proofs.Math.Path.{refl}
use Rattle.std.proofs.Common.{inl, inr, arith}
use Rattle.std.proofs.Math.Decide.{ℕ_discrete, dec_le}
use Rattle.layout.specs.declared.format.SegmentType.{SegmentType}
use Rattle.layout.specs.declared.format.SegmentType.TheVariants.{Code, RoData, Data, Bss}
use Rattle.linker_spec.specs.declared.rebase.LoadArguments.{LoadArguments}
use Rattle.history.specs.Image.{segments, count, file_segment}
use Rattle.writer_spec.specs.Description.{file_of, image_size}
use Rattle.writer_spec.specs.Words.{data_bytes, bss_bytes, data_room, bss_room, room_of}
use Rattle.writer_spec.specs.declared.words.Room.{Room}
use Rattle.writer_laid.specs.Accepted.{Disjoint, Fits}

-- ranges with no address in common, in numbers: one is empty, or one ends before the other starts
abbrev pub Apart : (p n q m : ℕ) → Type 0
Apart p n q m = (n ≡ 0) ⊎ (m ≡ 0) ⊎ (p + n ≤ q) ⊎ (q + m ≤ p)

-- that is what `Disjoint` says
pub disjoint_apart : (p n q m : ℕ) → Disjoint p n q m → Apart p n q m
disjoint_apart p n q m h = go (ℕ_discrete n 0) (ℕ_discrete m 0) (dec_le (p + n) q) (dec_le (q + m) p)
  where
    go : Dec (n ≡ 0) → Dec (m ≡ 0) → Dec (p + n ≤ q) → Dec (q + m ≤ p) → Apart p n q m
    go (yes a) b c e = inl a
    go (no a) (yes b) c e = inr (inl b)
    go (no a) (no b) (yes c) e = inr (inr (inl c))
    go (no a) (no b) (no c) (yes e) = inr (inr (inr e))
    go (no a) (no b) (no c) (no e) = absurd (h (max p q) (omega arith) (omega arith))

pub apart_disjoint : (p n q m : ℕ) → Apart p n q m → Disjoint p n q m
apart_disjoint p n q m (inl a) x h g = omega arith
apart_disjoint p n q m (inr (inl a)) x h g = omega arith
apart_disjoint p n q m (inr (inr (inl a))) x h g = omega arith
apart_disjoint p n q m (inr (inr (inr a))) x h g = omega arith

-- `Fits` in numbers: areas of at least these sizes that start above 0, end below 2^32 and are apart
pub record Holds (room : Room) (l : LoadArguments) : Type 0 where
  pub whole : l.size ≡ room.size
  pub data_enough : room.data_size ≤ l.data_segment_size
  pub bss_enough : room.bss_size ≤ l.bss_segment_size
  pub base_above : 0 < l.base
  pub data_above : 0 < l.data_segment
  pub bss_above : 0 < l.bss_segment
  pub base_below : l.base + l.size < 2 ^ 32
  pub data_below : l.data_segment + l.data_segment_size < 2 ^ 32
  pub bss_below : l.bss_segment + l.bss_segment_size < 2 ^ 32
  pub image_data : Apart l.base l.size l.data_segment l.data_segment_size
  pub image_bss : Apart l.base l.size l.bss_segment l.bss_segment_size
  pub data_bss : Apart l.data_segment l.data_segment_size l.bss_segment l.bss_segment_size

-- the greatest of f's values below n, as both rooms are counted
abbrev greatest : (ℕ → ℕ) → ℕ → ℕ
greatest f zero = 0
greatest f (suc n) = max (greatest f n) (f n)

-- it is above each, and the least such
greatest_above : (f : ℕ → ℕ) (n i : ℕ) → i < n → f i ≤ greatest f n
greatest_above f zero i l = absurd (omega arith)
greatest_above f (suc n) i l =
    elim (ℕ_discrete i n) [ yes e ↦ rw e (omega arith) | no m ↦ omega (arith, greatest_above f n i (omega arith)) ]

greatest_below : (f : ℕ → ℕ) (n m : ℕ) → ((i : ℕ) → i < n → f i ≤ m) → greatest f n ≤ m
greatest_below f zero m h = omega arith
greatest_below f (suc n) m h = omega (arith, h n (omega arith), greatest_below f n m (λ i l. h i (omega arith)))

module _ (F : ℕ → ℕ) where
  abbrev data_of : ℕ → ℕ
  data_of i = data_bytes (file_segment F i).kind (file_segment F i).size

  abbrev bss_of : ℕ → ℕ
  bss_of i = bss_bytes (file_segment F i).kind (file_segment F i).size

  -- both rooms are such
  data_greatest : (n : ℕ) → data_room F n ≡ greatest data_of n
  unfolding data_room
  data_greatest zero = refl
  data_greatest (suc n) = rw (data_greatest n)

  bss_greatest : (n : ℕ) → bss_room F n ≡ greatest bss_of n
  unfolding bss_room
  bss_greatest zero = refl
  bss_greatest (suc n) = rw (bss_greatest n)

  -- a Data (a Bss) segment fits into the greatest size
  pub data_room_lem : (n i : ℕ) → i < n → (file_segment F i).kind ≡ Data → (file_segment F i).size ≤ data_room F n
  data_room_lem n i l e =
      let h : data_bytes (file_segment F i).kind (file_segment F i).size ≤ greatest data_of n = greatest_above data_of n i l in
      rw (data_greatest n) (rw e at h)

  pub bss_room_lem : (n i : ℕ) → i < n → (file_segment F i).kind ≡ Bss → (file_segment F i).size ≤ bss_room F n
  bss_room_lem n i l e =
      let h : bss_bytes (file_segment F i).kind (file_segment F i).size ≤ greatest bss_of n = greatest_above bss_of n i l in
      rw (bss_greatest n) (rw e at h)

  -- and is the least room in which all fit
  pub data_least
      : (n m : ℕ) → ((i : ℕ) → i < n → (file_segment F i).kind ≡ Data → (file_segment F i).size ≤ m) → data_room F n ≤ m
  data_least n m h =
      rw (data_greatest n) (greatest_below data_of n m (λ i l. go i (file_segment F i).kind (h i l)))
    where
      go : (i : ℕ) (k : SegmentType) → (k ≡ Data → (file_segment F i).size ≤ m) → data_bytes k (file_segment F i).size ≤ m
      go i Code g = omega arith
      go i RoData g = omega arith
      go i Data g = g refl
      go i Bss g = omega arith

  pub bss_least
      : (n m : ℕ) → ((i : ℕ) → i < n → (file_segment F i).kind ≡ Bss → (file_segment F i).size ≤ m) → bss_room F n ≤ m
  bss_least n m h =
      rw (bss_greatest n) (greatest_below bss_of n m (λ i l. go i (file_segment F i).kind (h i l)))
    where
      go : (i : ℕ) (k : SegmentType) → (k ≡ Bss → (file_segment F i).size ≤ m) → bss_bytes k (file_segment F i).size ≤ m
      go i Code g = omega arith
      go i RoData g = omega arith
      go i Data g = omega arith
      go i Bss g = g refl

-- the room that a description's image needs
abbrev pub room_for : List ℕ → Room
room_for d = room_of (file_of d) (image_size d)

module _ (d : List ℕ) (l : LoadArguments) where
  -- a place is one in numbers
  pub fits-holds : Fits d l → Holds (room_for d) l
  fits-holds h =
      record {
        whole = h.whole;
        data_enough = data_least (file_of d) (count (file_of d) segments) l.data_segment_size h.data_enough;
        bss_enough = bss_least (file_of d) (count (file_of d) segments) l.bss_segment_size h.bss_enough;
        base_above = h.base_above;
        data_above = h.data_above;
        bss_above = h.bss_above;
        base_below = h.base_below;
        data_below = h.data_below;
        bss_below = h.bss_below;
        image_data = disjoint_apart _ _ _ _ h.image_data;
        image_bss = disjoint_apart _ _ _ _ h.image_bss;
        data_bss = disjoint_apart _ _ _ _ h.data_bss;
      }

  pub holds_fits : Holds (room_for d) l → Fits d l
  holds_fits h =
      record {
        whole = h.whole;
        data_enough = λ i b e. omega (arith, data_room_lem (file_of d) (count (file_of d) segments) i b e, h.data_enough);
        bss_enough = λ i b e. omega (arith, bss_room_lem (file_of d) (count (file_of d) segments) i b e, h.bss_enough);
        base_above = h.base_above;
        data_above = h.data_above;
        bss_above = h.bss_above;
        base_below = h.base_below;
        data_below = h.data_below;
        bss_below = h.bss_below;
        image_data = apart_disjoint _ _ _ _ h.image_data;
        image_bss = apart_disjoint _ _ _ _ h.image_bss;
        data_bss = apart_disjoint _ _ _ _ h.data_bss;
      }
