-- What the proofs of `writer::words` cite: relocation kinds that count, and segments' room.
use Rattle.std.specs.Prelude.{nat_eq}
use Rattle.std.specs.List.{list_any}
use Prim.Native.Nat.{ℕ, ◌+◌, max}
use native.Mathlib.Omega.{arith}
use mathlib.Core.Logic.{◌⊎◌, ⊎_elim}
use mathlib.Core.Path.{◌≡◌, refl, ◌∙◌, ap}
use mathlib.Core.List.{List, [], ◌∷◌}
use mathlib.Core.Bool.{◌||◌}
use native.Mathlib.Numerals.{add-one}
use borrow.Author.Tests.{eq-eqb, ne_eqb}
use Rattle.layout.specs.declared.format.Segment.{Segment}
use Rattle.layout.specs.declared.format.SegmentType.TheVariants.{Code, RoData, Data, Bss}
use Rattle.history.specs.Image.{file_segment}
use Rattle.writer_spec.specs.Words.{counts, data_bytes, bss_bytes, data_room, bss_room, last_data}
use Rattle.writer_spec.specs.declared.words.Room.{Room}

-- a search through the kinds
pub counts_any : (l : List ℕ) (k : ℕ) → list_any (λ x. nat_eq x k) l ≡ counts l k
unfolding counts
counts_any [] k = refl
counts_any (x ∷ xs) k = ap (λ b. nat_eq x k || b) (counts_any xs k)

module _ (F : ℕ → ℕ) where
  -- what the first i segments ask for
  pub record RoomBelow (size i : ℕ) (room : Room) : Type 0 where
    pub size-is : room.size ≡ size
    pub data_size-is : room.data_size ≡ data_room F i
    pub bss_size-is : room.bss_size ≡ bss_room F i
    pub last_data-is : room.last_data ≡ last_data F i

  pub room_none : (size : ℕ) → RoomBelow size 0 (record { size = size; data_size = 0; bss_size = 0; last_data = 0 })
  unfolding data_room bss_room last_data
  room_none size = record { size-is = refl; data_size-is = refl; bss_size-is = refl; last_data-is = refl }

  -- a Data segment of size above 0 is the last, else the last one is one before it
  last_data_here
      : (i : ℕ) {bytes : ℕ} {s : Segment} → s ≡ file_segment F i → bytes ≡ data_bytes s.kind s.size → (bytes ≡ 0 → ⊥)
      → s.offset ≡ last_data F (i + 1)
  unfolding last_data
  last_data_here i said bytes some = rw (add-one, ← said, ← bytes, ne_eqb _ _ some)

  last_data_before
      : (i : ℕ) {bytes last : ℕ} {s : Segment} → s ≡ file_segment F i → bytes ≡ data_bytes s.kind s.size → bytes ≡ 0
      → last ≡ last_data F i → last ≡ last_data F (i + 1)
  unfolding last_data
  last_data_before i said bytes none before = rw (add-one, ← said, ← bytes, eq-eqb _ _ none) before

  room-more
      : (i : ℕ) {size last data-bytes bss-bytes data-size bss-size : ℕ} {s : Segment} {room : Room}
      → RoomBelow size i room → s ≡ file_segment F i → data-bytes ≡ data_bytes s.kind s.size
      → data-size ≡ max room.data_size data-bytes → bss-bytes ≡ bss_bytes s.kind s.size → bss-size ≡ max room.bss_size bss-bytes
      → last ≡ last_data F (i + 1)
      → RoomBelow size (i + 1) (record { size = room.size; data_size = data-size; bss_size = bss-size; last_data = last })
  unfolding data_room bss_room
  room-more i below said data-bytes data-size bss-bytes bss-size last =
      record {
        size-is = below.size-is;
        data_size-is = data-size ∙ rw (add-one, data-bytes, below.data_size-is, said);
        bss_size-is = bss-size ∙ rw (add-one, bss-bytes, below.bss_size-is, said);
        last_data-is = last;
      }

  -- a segment more, by its kind
  module _ (i : ℕ) {size : ℕ} {s : Segment} {room : Room} (below : RoomBelow size i room) (said : s ≡ file_segment F i) where
    data-more
        : {data-size last : ℕ} → s.kind ≡ Data → data-size ≡ max room.data_size s.size → last ≡ last_data F (i + 1)
        → RoomBelow size (i + 1) (record { size = room.size; data_size = data-size; bss_size = room.bss_size; last_data = last })
    data-more is-data grown last =
        let bytes : s.size ≡ data_bytes s.kind s.size = rw is-data in
        let others : 0 ≡ bss_bytes s.kind s.size = rw is-data in
        room-more i below said bytes grown others (omega arith) last

    pub data-some
        : {data-size : ℕ} → s.kind ≡ Data → data-size ≡ max room.data_size s.size → (s.size ≡ 0 → ⊥)
        → RoomBelow size (i + 1) (record { size = room.size; data_size = data-size; bss_size = room.bss_size; last_data = s.offset })
    data-some is-data grown some =
        let bytes : s.size ≡ data_bytes s.kind s.size = rw is-data in
        data-more is-data grown (last_data_here i said bytes some)

    pub data-empty
        : {data-size : ℕ} → s.kind ≡ Data → data-size ≡ max room.data_size s.size → s.size ≡ 0
        → RoomBelow size (i + 1) (record { size = room.size; data_size = data-size; bss_size = room.bss_size; last_data = room.last_data })
    data-empty is-data grown none =
        let bytes : s.size ≡ data_bytes s.kind s.size = rw is-data in
        data-more is-data grown (last_data_before i said bytes none below.last_data-is)

    pub bss-more
        : {bss-size : ℕ} → s.kind ≡ Bss → bss-size ≡ max room.bss_size s.size
        → RoomBelow size (i + 1) (record { size = room.size; data_size = room.data_size; bss_size = bss-size; last_data = room.last_data })
    bss-more bss grown =
        let others : 0 ≡ data_bytes s.kind s.size = rw bss in
        let bytes : s.size ≡ bss_bytes s.kind s.size = rw bss in
        room-more i below said others (omega arith) bytes grown (last_data_before i said others refl below.last_data-is)

    pub others-more : (s.kind ≡ Code) ⊎ (s.kind ≡ RoData) → RoomBelow size (i + 1) room
    others-more kind =
        let no-data : 0 ≡ data_bytes s.kind s.size = ⊎_elim (λ code. rw code) (λ ro. rw ro) kind in
        let no-bss : 0 ≡ bss_bytes s.kind s.size = ⊎_elim (λ code. rw code) (λ ro. rw ro) kind in
        room-more i below said no-data (omega arith) no-bss (omega arith) (last_data_before i said no-data refl below.last_data-is)
