-- A word of the image that starts past the image's end: what its test says, and that it then lies in data or bss wherever they are.
use Rattle.std.specs.Prelude.{ℕ, ◌+◌, ◌-◌, ◌^◌, ◌≤◌, ◌<◌, ◌≡◌, ◌⊎◌, true}
use Rattle.std.proofs.Math.Logic.{inl, inr, ⊎_elim}
use Rattle.std.proofs.Common.{arith}
use borrow.Author.Tests.{le-leb, lt-leb, leb-true}
use Rattle.window.specs.Within.{In}
use Rattle.window.specs.Tests.{both, also}
use Rattle.linker_spec.specs.declared.rebase.LoadArguments.{LoadArguments}
use Rattle.writer_spec.specs.Words.{free, far_inside, word_inside}
use Rattle.writer_spec.specs.declared.words.Room.{Room}
use Rattle.writer_spec.specs.declared.words.WordPlace.TheVariants.{InImage}
use Rattle.writer_laid.specs.Cases.{either, one_of}
use Rattle.writer_laid.specs.InPlace.Places.{Holds}
use Rattle.writer_laid.specs.InPlace.Line.{end_of, past, Order, data_first, bss_first, Starts, lent_starts}

-- a word e bytes past the image's end stands at p, in the n bytes at x that start s bytes past it
pub record FarIn (x n s e p : ℕ) : Type 0 where
  pub from_start : s ≤ e
  pub to_end : e + 4 ≤ s + n
  pub there : p ≡ x + (e - s)

-- so does one between their ends on the line
far_at
    : (end x n s e p : ℕ) → x ≡ past end s → p ≡ past end e → x + n < 2 ^ 32 → (s ≤ e) × (e + 4 ≤ s + n) → FarIn x n s e p
far_at end x n s e p a b h g = record { from_start = g.0; to_end = g.1; there = omega arith }

-- its bytes are in them
pub in_area : {x n s e p : ℕ} → FarIn x n s e p → (q : ℕ) → In p 4 q → In x n q
in_area k q i = (omega arith, omega arith)

module _ (room : Room) where
  -- what the test says of a word e bytes past the image's end
  pub record FarInside (e : ℕ) : Type 0 where
    pub after_gap : free room ≤ e
    pub in_data : e + 4 ≤ room.data_size
    pub in_bss : (e + 4 ≤ room.bss_size) ⊎ (room.bss_size + free room ≤ e)

  far_tested : (e : ℕ) → far_inside room e ≡ true → FarInside e
  unfolding far_inside
  far_tested e h =
      let f = both _ _ h in
      let g = both _ _ f.1 in
      record {
        after_gap = leb-true _ _ f.0;
        in_data = leb-true _ _ g.0;
        in_bss = ⊎_elim (λ a. inl (leb-true _ _ a)) (λ a. inr (leb-true _ _ a)) (either _ _ g.1);
      }

  pub far_test : (e : ℕ) → FarInside e → far_inside room e ≡ true
  unfolding far_inside
  far_test e h =
      also (le-leb _ _ h.after_gap)
      (also (le-leb _ _ h.in_data) (one_of _ _ (⊎_elim (λ a. inl (le-leb _ _ a)) (λ a. inr (le-leb _ _ a)) h.in_bss)))

  -- what the test of a word of the image says, by whether it starts past the image's end
  pub inside_near : (c : ℕ) → c ≤ room.size → word_inside room (InImage c) ≡ true → c + 4 ≤ room.size
  unfolding word_inside
  inside_near c m g = leb-true (c + 4) room.size (rw (le-leb c room.size m) at g)

  pub inside_far : (c : ℕ) → room.size < c → word_inside room (InImage c) ≡ true → FarInside (c - room.size)
  unfolding word_inside
  inside_far c m g = far_tested (c - room.size) (rw (lt-leb c room.size m) at g)

  -- it lies wholly in data or wholly in bss
  far_covered
      : {s u : ℕ} (e : ℕ) → FarInside e → Order room s u
      → ((s ≤ e) × (e + 4 ≤ s + room.data_size)) ⊎ ((u ≤ e) × (e + 4 ≤ u + room.bss_size))
  far_covered e f (data_first a b) = inl (omega arith)
  far_covered e f (bss_first a b c) = ⊎_elim (λ g. inr (omega arith)) (λ g. inl (omega arith)) f.in_bss

  -- in data or in bss, by their starts
  abbrev pub FarPlace : (l : LoadArguments) → Starts room l → (e p : ℕ) → Type 0
  FarPlace l starts e p =
      FarIn l.data_segment room.data_size starts.data_start e p
      ⊎ FarIn l.bss_segment room.bss_size starts.bss_start e p

  module _ (l : LoadArguments) (h : Holds room l) where
    pub far_in : (starts : Starts room l) (e p : ℕ) → FarInside e → p ≡ past (end_of l) e → FarPlace l starts e p
    far_in starts e p f a =
        ⊎_elim
        (λ g.
        inl
        (far_at (end_of l) l.data_segment _ starts.data_start e p starts.data_at a (omega (arith, h.data_below, h.data_enough)) g))
        (λ g.
        inr
        (far_at (end_of l) l.bss_segment _ starts.bss_start e p (starts.bss_at (omega arith)) a (omega (arith, h.bss_below, h.bss_enough)) g))
        (far_covered e f starts.order)

    -- so each byte of it is a lent one
    pub far_lent
        : 0 < room.size → (c p q : ℕ) → room.size < c → word_inside room (InImage c) ≡ true → p ≡ past l.base c → In p 4 q
        → In l.data_segment l.data_segment_size q ⊎ In l.bss_segment l.bss_segment_size q
    far_lent image c p q m g a i = go starts (far_in starts (c - room.size) p far (omega (arith, h.whole)))
      where
        far : FarInside (c - room.size)
        far = inside_far c m g

        starts : Starts room l
        starts = lent_starts room l h image (omega (arith, far.in_data))

        go
            : (starts : Starts room l) → FarPlace l starts (c - room.size) p
            → In l.data_segment l.data_segment_size q ⊎ In l.bss_segment l.bss_segment_size q
        go starts (inl k) = let r = in_area k q i in inl (omega (arith, h.data_enough))
        go starts (inr k) = let r = in_area k q i in inr (omega (arith, h.bss_enough))
