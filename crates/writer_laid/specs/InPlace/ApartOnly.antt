-- Two relocated words that do not overlap in any place pass the tests: two that do not pass meet where a lent area starts at the right distance.
use Rattle.std.specs.Prelude.{ℕ, ◌+◌, ◌-◌, ◌^◌, ◌≤◌, ◌<◌, min, ◌≡◌, ◌⊎◌, eqb}
use Rattle.std.proofs.Math.Path.{refl}
use Rattle.std.proofs.Common.{inl, inr, ⊎_elim, arith, eq-eqb}
use Rattle.std.proofs.Math.Bool.{true}
use Rattle.std.proofs.Math.Decide.{dec_le, dec_lt}
use Rattle.window.specs.Within.{In}
use Rattle.window.specs.Tests.{also}
use Rattle.linker_spec.specs.declared.rebase.LoadArguments.{LoadArguments}
use Rattle.writer_spec.specs.Words.{free, places_apart, far_past, past_image, far_apart}
use Rattle.writer_spec.specs.declared.words.Room.{Room}
use Rattle.writer_spec.specs.declared.words.WordPlace.{WordPlace}
use Rattle.writer_spec.specs.declared.words.WordPlace.TheVariants.{InImage, InData, InBss, Nowhere}
use Rattle.writer_laid.specs.Cases.{one_of}
use Rattle.writer_laid.specs.InPlace.Places.{Holds}
use Rattle.writer_laid.specs.InPlace.Line.{past, Fitting}
use Rattle.writer_laid.specs.InPlace.Arrangement.{Arrangement, end_before, arranged, arranged-holds, edge_data_bss, edge_bss_data, data_edge_bss, bss_edge_data, bss_data_edge, gap_after_bss}
use Rattle.writer_laid.specs.InPlace.Standing.{Stands, InAreas, Inside, ApartIn, ApartAll, Bounded}
use Rattle.writer_laid.specs.InPlace.ApartEach.{Clear, clear_test, FarClear, far_clear_test}

-- the second of two words at most 3 bytes apart starts in the first, if the last address and 0 are in neither
starts_in
    : (base c e : ℕ) → 0 < past base c → past base c + 4 < 2 ^ 32 → 0 < past base e → past base e + 4 < 2 ^ 32 → c ≤ e → e < c + 4
    → In (past base c) 4 (past base e)
starts_in base c e a b f g m n = (omega arith, omega arith)

-- where an area can start s bytes past the image's end, or anywhere from s + 2 to s + free
abbrev CanStart : (s free start : ℕ) → Type 0
CanStart s free start = (start ≡ s) ⊎ ((s + 2 ≤ start) × (start ≤ s + free))

-- a word e bytes past the image's end that is clear of one at t in each such area passes
clear-from : (e t s free : ℕ) → 2 ≤ free → ((start : ℕ) → CanStart s free start → Clear e (start + t)) → FarClear e t s free
clear-from e t s free a h = go (dec_lt (e + 3) (s + t)) (dec_lt (s + (t + (free + 3))) e) (dec_le e (s + t + 3))
  where
    meets : (start : ℕ) → CanStart s free start → e < start + t + 4 → start + t < e + 4 → ⊥
    meets start m f g = ⊎_elim (λ b. omega arith) (λ b. omega arith) (h start m)

    go : Dec (e + 3 < s + t) → Dec (s + (t + (free + 3)) < e) → Dec (e ≤ s + t + 3) → FarClear e t s free
    go (yes b) c d = inl b
    go (no b) (yes c) d = inr c
    go (no b) (no c) (yes d) = absurd (meets s (inl refl) (omega arith) (omega arith))
    go (no b) (no c) (no d) = absurd (meets (min (e - t) (s + free)) (inr (omega arith, omega arith)) (omega arith) (omega arith))

module _ (room : Room) where
  -- the last address and 0 are in no word that lies in the areas
  area_bounds : (l : LoadArguments) → Holds room l → (q : ℕ) → InAreas l q → (0 < q) × (q + 1 < 2 ^ 32)
  area_bounds l h q (inl k) = (omega (arith, h.base_above), omega (arith, h.base_below))
  area_bounds l h q (inr (inl k)) = (omega (arith, h.data_above), omega (arith, h.data_below))
  area_bounds l h q (inr (inr k)) = (omega (arith, h.bss_above), omega (arith, h.bss_below))

  word_bounds : (l : LoadArguments) → Holds room l → (w : WordPlace) → Inside l w → (p : ℕ) → Stands l w p → (0 < p) × (p + 4 < 2 ^ 32)
  word_bounds l h w i p a =
      let low = area_bounds l h p (i p a p (omega arith)) in
      let high = area_bounds l h (p + 3) (i p a (p + 3) (omega arith)) in
      (low.0, omega arith)

  -- so two words that do not meet are clear of each other, counted from one base
  Clear-in
      : (l : LoadArguments) → Holds room l → (v w : WordPlace) → Inside l v × Inside l w × ApartIn l v w → (base c e : ℕ) → Stands l v (past base c)
      → Stands l w (past base e)
      → Clear c e
  Clear-in l h v w k base c e a b = go (dec_le (c + 4) e) (dec_le (e + 4) c) (dec_le c e)
    where
      first : (0 < past base c) × (past base c + 4 < 2 ^ 32)
      first = word_bounds l h v k.0 (past base c) a

      second : (0 < past base e) × (past base e + 4 < 2 ^ 32)
      second = word_bounds l h w k.1 (past base e) b

      go : Dec (c + 4 ≤ e) → Dec (e + 4 ≤ c) → Dec (c ≤ e) → Clear c e
      go (yes m) n r = inl m
      go (no m) (yes n) r = inr n
      go (no m) (no n) (yes r) =
          absurd
          (k.2 (past base c) (past base e) (past base e) a b
          (starts_in base c e first.0 first.1 second.0 second.1 r (omega arith)) (omega arith))
      go (no m) (no n) (no r) =
          absurd
          (k.2 (past base c) (past base e) (past base c) a b (omega arith)
          (starts_in base e c second.0 second.1 first.0 first.1 (omega arith) (omega arith)))

  clear_at
      : (a : Arrangement room) (v w : WordPlace) → ApartAll room v w → (base c e : ℕ) → Stands (arranged room a) v (past base c)
      → Stands (arranged room a) w (past base e)
      → Clear c e
  clear_at a v w every base c e =
      Clear-in (arranged room a) (arranged-holds room a) v w (every (arranged room a) (arranged-holds room a)) base c e

  module _ (fits : Fitting room) where
    -- two words of one area, in any place
    pub places_only : (v w : WordPlace) → Bounded room v → Bounded room w → ApartAll room v w → places_apart v w ≡ true
    unfolding places_apart
    places_only (InImage c) (InImage e) a b every =
        clear_test c e
        (clear_at (data_edge_bss room fits) (InImage c) (InImage e) every (arranged room (data_edge_bss room fits)).base c e refl refl)
    places_only (InData c) (InData e) a b every =
        clear_test c e
        (clear_at (data_edge_bss room fits) (InData c) (InData e) every (end_before room.data_size) c e (omega arith) (omega arith))
    places_only (InBss c) (InBss e) a b every =
        clear_test c e
        (clear_at (gap_after_bss room fits) (InBss c) (InBss e) every (end_before room.bss_size) c e (omega arith) (omega arith))
    places_only (InImage c) (InData e) a b every = refl
    places_only (InImage c) (InBss e) a b every = refl
    places_only (InImage c) Nowhere a b every = refl
    places_only (InData c) (InImage e) a b every = refl
    places_only (InData c) (InBss e) a b every = refl
    places_only (InData c) Nowhere a b every = refl
    places_only (InBss c) (InImage e) a b every = refl
    places_only (InBss c) (InData e) a b every = refl
    places_only (InBss c) Nowhere a b every = refl
    places_only Nowhere w a b every = refl

    module _ (c t : ℕ) (far : room.size < c) where
      abbrev e : ℕ
      e = c - room.size

      -- a word past the image's end and one in data: data before bss, or after it
      data_past : ApartAll room (InImage c) (InData t) → t < room.data_size → far_past room e (InData t) ≡ true
      unfolding far_past
      data_past every b =
          also (far_clear_test e t 0 (free room) (clear-from e t 0 (free room) (omega arith) before_bss))
          (far_clear_test e t room.bss_size (free room) (clear-from e t room.bss_size (free room) (omega arith) after_bss))
        where
          clear : (a : Arrangement room) → Clear e (a.data_start + t)
          clear a =
              clear_at a (InImage c) (InData t) every (end_before a.edge) e (a.data_start + t) (omega (arith, a.edge_before))
              (omega (arith, (arranged-holds room a).data_below))

          before_bss : (start : ℕ) → CanStart 0 (free room) start → Clear e (start + t)
          before_bss start (inl k) = rw k (clear (data_edge_bss room fits))
          before_bss start (inr k) = clear (edge_data_bss room fits start (omega arith) (omega arith))

          after_bss : (start : ℕ) → CanStart room.bss_size (free room) start → Clear e (start + t)
          after_bss start (inl k) = rw k (clear (bss_data_edge room fits))
          after_bss start (inr k) = clear (bss_edge_data room fits start k.0 k.1)

      -- and one in bss: bss before data; after it, the word does not reach so far
      bss_past : ApartAll room (InImage c) (InBss t) → t < room.bss_size → far_past room e (InBss t) ≡ true
      unfolding far_past
      bss_past every b = far_clear_test e t 0 (free room) (clear-from e t 0 (free room) (omega arith) before_data)
        where
          clear : (a : Arrangement room) → Clear e (a.bss_start + t)
          clear a =
              clear_at a (InImage c) (InBss t) every (end_before a.edge) e (a.bss_start + t) (omega (arith, a.edge_before))
              (omega (arith, (arranged-holds room a).bss_below))

          before_data : (start : ℕ) → CanStart 0 (free room) start → Clear e (start + t)
          before_data start (inl k) = rw k (clear (gap_after_bss room fits))
          before_data start (inr k) = clear (edge_bss_data room fits start (omega arith) (omega arith))

    -- a word past the image's end against any
    pub far_apart_only : (v w : WordPlace) → Bounded room w → ApartAll room v w → far_apart room v w ≡ true
    unfolding far_apart past_image far_past
    far_apart_only (InImage c) w b every = one_of (eqb (c - room.size) 0) (far_past room (c - room.size) w) (go (dec_le c room.size))
      where
        past_test : (w : WordPlace) → room.size < c → Bounded room w → ApartAll room (InImage c) w → far_past room (c - room.size) w ≡ true
        past_test (InImage e) m b every = refl
        past_test (InData t) m b every = data_past c t m every b
        past_test (InBss t) m b every = bss_past c t m every b
        past_test Nowhere m b every = refl

        go : Dec (c ≤ room.size) → (eqb (c - room.size) 0 ≡ true) ⊎ (far_past room (c - room.size) w ≡ true)
        go (yes m) = inl (eq-eqb (c - room.size) 0 (omega arith))
        go (no m) = inr (past_test w (omega arith) b every)
    far_apart_only (InData t) w b every = refl
    far_apart_only (InBss t) w b every = refl
    far_apart_only Nowhere w b every = refl

  -- a word is not tested against itself
  pub far_self : (w : WordPlace) → far_apart room w w ≡ true
  unfolding far_apart past_image far_past
  far_self (InImage c) = one_of (eqb (c - room.size) 0) true (inr refl)
  far_self (InData t) = refl
  far_self (InBss t) = refl
  far_self Nowhere = refl
