-- Two relocated words that pass the tests do not overlap in any place.
use Rattle.std.specs.Prelude.{ℕ, ◌+◌, ◌-◌, ◌^◌, ◌≤◌, ◌<◌, ◌≡◌, ◌⊎◌, true, eqb}
use Rattle.std.proofs.Common.{inl, inr, arith}
use Rattle.std.proofs.Math.Logic.{⊎_elim}
use Rattle.std.proofs.Math.Decide.{dec_le}
use borrow.Author.Tests.{le-leb, leb-true, lt-ltb, ltb-true, eqb-true}
use Rattle.window.specs.Within.{In}
use Rattle.window.specs.Tests.{both}
use Rattle.linker_spec.specs.declared.rebase.LoadArguments.{LoadArguments}
use Rattle.writer_spec.specs.Words.{free, word_inside, words_clear, places_apart, far_clear, far_past, past_image, far_apart}
use Rattle.writer_spec.specs.declared.words.Room.{Room}
use Rattle.writer_spec.specs.declared.words.WordPlace.{WordPlace}
use Rattle.writer_spec.specs.declared.words.WordPlace.TheVariants.{InImage, InData, InBss, Nowhere}
use Rattle.writer_laid.specs.Cases.{either, one_of}
use Rattle.writer_laid.specs.InPlace.Places.{Apart, apart_disjoint, Holds}
use Rattle.writer_laid.specs.InPlace.Line.{end_of, past, Order, data_first, bss_first, Starts, lent_starts, fits-between}
use Rattle.writer_laid.specs.InPlace.Standing.{ApartIn}
use Rattle.writer_laid.specs.InPlace.Far.{FarInside, FarIn, in_area, FarPlace, far_in, inside_near, inside_far}

-- what the test of two offsets of one area says
abbrev pub Clear : ℕ → ℕ → Type 0
Clear c e = (c + 4 ≤ e) ⊎ (e + 4 ≤ c)

clear-tested : (c e : ℕ) → words_clear c e ≡ true → Clear c e
clear-tested c e h = ⊎_elim (λ a. inl (leb-true _ _ a)) (λ a. inr (leb-true _ _ a)) (either _ _ h)

pub clear_test : (c e : ℕ) → Clear c e → words_clear c e ≡ true
clear_test c e h = one_of _ _ (⊎_elim (λ a. inl (le-leb _ _ a)) (λ a. inr (le-leb _ _ a)) h)

-- what that of a word e bytes past the image's end and one at t of an area says, which starts from s to s + free bytes past it
abbrev pub FarClear : (e t s free : ℕ) → Type 0
FarClear e t s free = (e + 3 < s + t) ⊎ (s + (t + (free + 3)) < e)

far_clear-tested : (e t s free : ℕ) → far_clear e t s free ≡ true → FarClear e t s free
far_clear-tested e t s free h = ⊎_elim (λ a. inl (ltb-true _ _ a)) (λ a. inr (ltb-true _ _ a)) (either _ _ h)

pub far_clear_test : (e t s free : ℕ) → FarClear e t s free → far_clear e t s free ≡ true
far_clear_test e t s free h = one_of _ _ (⊎_elim (λ a. inl (lt-ltb _ _ a)) (λ a. inr (lt-ltb _ _ a)) h)

-- it does, wherever in these bounds the area starts
clear_within : (e t s free start : ℕ) → s ≤ start → start ≤ s + free → FarClear e t s free → Clear e (start + t)
clear_within e t s free start a b (inl h) = inl (omega arith)
clear_within e t s free start a b (inr h) = inr (omega arith)

-- two words of one area, and a word past the image's end and one of the area in which it stands
area_apart : (start c e q : ℕ) → Clear c e → In (start + c) 4 q → In (start + e) 4 q → ⊥
area_apart start c e q (inl h) i j = omega arith
area_apart start c e q (inr h) i j = omega arith

far_apart_lem : {x n s e p : ℕ} → FarIn x n s e p → (t q : ℕ) → Clear e (s + t) → In p 4 q → In (x + t) 4 q → ⊥
far_apart_lem k t q (inl h) i j = omega arith
far_apart_lem k t q (inr h) i j = omega arith

-- two words of the image, the addresses going round
round_apart
    : (base c e p q x n : ℕ) → p ≡ past base c → q ≡ past base e → c + 4 ≤ n → e + 4 ≤ n → n + 2 ≤ 2 ^ 32 → Clear c e → In p 4 x → In q 4 x → ⊥
round_apart base c e p q x n a b f g m (inl h) i j = omega arith
round_apart base c e p q x n a b f g m (inr h) i j = omega arith

module _ (room : Room) where
  -- the test of a word past the image's end, against any
  far_past-tested : (c : ℕ) (w : WordPlace) → room.size < c → far_apart room (InImage c) w ≡ true → far_past room (c - room.size) w ≡ true
  unfolding far_apart past_image
  far_past-tested c w m h =
      ⊎_elim (λ a. absurd (omega (arith, eqb-true (c - room.size) 0 a))) (λ a. a)
      (either (eqb (c - room.size) 0) (far_past room (c - room.size) w) h)

  -- by where data and bss start, it is clear of a word in data, and of one in bss if it stands there
  data_clear
      : {s u : ℕ} (e t : ℕ) → Order room s u → FarClear e t 0 (free room) → FarClear e t room.bss_size (free room) → Clear e (s + t)
  data_clear {s} e t (data_first a b) f g = clear_within e t 0 (free room) s (omega arith) (omega arith) f
  data_clear {s} e t (bss_first a b c) f g = clear_within e t room.bss_size (free room) s b c g

  bss_clear
      : {s u : ℕ} (e t : ℕ) → Order room s u → FarInside room e → 0 < room.bss_size → u ≤ e → FarClear e t 0 (free room) → Clear e (u + t)
  bss_clear e t (data_first a b) k some m f = absurd (omega (arith, b some))
  bss_clear {s} {u} e t (bss_first a b c) k some m f = clear_within e t 0 (free room) u (omega arith) (omega arith) f

  module _ (l : LoadArguments) (h : Holds room l) (image : 0 < room.size) where
    -- no address is in both lent areas
    data_bss_off : (q : ℕ) → In l.data_segment room.data_size q → In l.bss_segment room.bss_size q → ⊥
    data_bss_off q a b = apart_disjoint _ _ _ _ h.data_bss q (omega (arith, h.data_enough)) (omega (arith, h.bss_enough))

    -- a word of the image against one at t of a lent area of m bytes at y: what is left is that it starts past the image's end
    image_apart
        : (y m c t p q : ℕ) → Apart l.base l.size y m → t + 4 ≤ m → word_inside room (InImage c) ≡ true → p ≡ past l.base c → In p 4 q
        → In (y + t) 4 q
        → (room.size < c → FarInside room (c - room.size) → p ≡ past (end_of l) (c - room.size) → ⊥)
        → ⊥
    image_apart y m c t p q o a f e i j far = elim (dec_le c room.size) [
      | yes k ↦ apart_disjoint _ _ _ _ o q (omega (arith, inside_near room c k f, h.whole, h.base_below)) (omega arith)
      | no k ↦ far (omega arith) (inside_far room c (omega arith) f) (omega (arith, h.whole))
    ]

    -- so against one in data, and against one in bss
    image_data
        : (c t : ℕ) → word_inside room (InImage c) ≡ true → word_inside room (InData t) ≡ true → far_apart room (InImage c) (InData t) ≡ true
        → ApartIn l (InImage c) (InData t)
    unfolding word_inside far_past
    image_data c t f g k p q x a b i j =
        image_apart l.data_segment l.data_segment_size c t p x h.image_data (omega (arith, in_data, h.data_enough)) f a i (rw b at j)
        (λ m r e. let starts = lent_starts room l h image (omega (arith, in_data)) in
        far starts (both _ _ (far_past-tested c (InData t) m k)) (far_in room l h starts (c - room.size) p r e))
      where
        in_data : t + 4 ≤ room.data_size
        in_data = leb-true (t + 4) room.data_size g

        far
            : (starts : Starts room l)
            → (far_clear (c - room.size) t 0 (free room) ≡ true) × (far_clear (c - room.size) t room.bss_size (free room) ≡ true)
            → FarPlace room l starts (c - room.size) p
            → ⊥
        far starts n (inl r) =
            far_apart_lem r t x
            (data_clear (c - room.size) t starts.order (far_clear-tested (c - room.size) t 0 (free room) n.0)
            (far_clear-tested (c - room.size) t room.bss_size (free room) n.1))
            i (rw b at j)
        far starts n (inr r) = data_bss_off x (omega (arith, in_data)) (in_area r x i)

    image_bss
        : (c t : ℕ) → word_inside room (InImage c) ≡ true → word_inside room (InBss t) ≡ true → far_apart room (InImage c) (InBss t) ≡ true
        → ApartIn l (InImage c) (InBss t)
    unfolding word_inside far_past
    image_bss c t f g k p q x a b i j =
        image_apart l.bss_segment l.bss_segment_size c t p x h.image_bss (omega (arith, in_bss, h.bss_enough)) f a i (rw b at j)
        (λ m r e. let starts = lent_starts room l h image (omega (arith, r.in_data)) in
        far starts r (far_past-tested c (InBss t) m k) (far_in room l h starts (c - room.size) p r e))
      where
        in_bss : t + 4 ≤ room.bss_size
        in_bss = leb-true (t + 4) room.bss_size g

        far
            : (starts : Starts room l) → FarInside room (c - room.size) → far_clear (c - room.size) t 0 (free room) ≡ true
            → FarPlace room l starts (c - room.size) p
            → ⊥
        far starts m n (inl r) = data_bss_off x (in_area r x i) (omega (arith, in_bss))
        far starts m n (inr r) =
            far_apart_lem r t x
            (bss_clear (c - room.size) t starts.order m (omega (arith, in_bss)) r.from_start
            (far_clear-tested (c - room.size) t 0 (free room) n))
            i (rw b at j)

    -- a word of the image ends at most where the greatest Data segment would right after it
    image_end : (c : ℕ) → word_inside room (InImage c) ≡ true → c + 4 ≤ room.size + room.data_size
    image_end c f = elim (dec_le c room.size) [
      | yes m ↦ omega (arith, inside_near room c m f)
      | no m ↦ omega (arith, (inside_far room c (omega arith) f).in_data)
    ]

    -- by the areas in which the two stand
    pub apart_each
        : (v w : WordPlace) → word_inside room v ≡ true → word_inside room w ≡ true → places_apart v w ≡ true → far_apart room v w ≡ true
        → far_apart room w v ≡ true
        → ApartIn l v w
    unfolding places_apart word_inside
    apart_each (InImage c) (InImage e) f g o m n p q x a b i j =
        round_apart l.base c e p q x (room.size + room.data_size) a b (image_end c f) (image_end e g)
        (omega (arith, fits-between room l h image)) (clear-tested c e o) i j
    apart_each (InImage c) (InData t) f g o m n p q x a b i j = image_data c t f g m p q x a b i j
    apart_each (InImage c) (InBss t) f g o m n p q x a b i j = image_bss c t f g m p q x a b i j
    apart_each (InImage c) Nowhere f g o m n p q x a b i j = b
    apart_each (InData t) (InImage c) f g o m n p q x a b i j = image_data c t g f n q p x b a j i
    apart_each (InData c) (InData e) f g o m n p q x a b i j =
        area_apart l.data_segment c e x (clear-tested c e o) (rw a at i) (rw b at j)
    apart_each (InData c) (InBss e) f g o m n p q x a b i j =
        data_bss_off x (omega (arith, leb-true (c + 4) room.data_size f)) (omega (arith, leb-true (e + 4) room.bss_size g))
    apart_each (InData c) Nowhere f g o m n p q x a b i j = b
    apart_each (InBss t) (InImage c) f g o m n p q x a b i j = image_bss c t g f n q p x b a j i
    apart_each (InBss c) (InData e) f g o m n p q x a b i j =
        data_bss_off x (omega (arith, leb-true (e + 4) room.data_size g)) (omega (arith, leb-true (c + 4) room.bss_size f))
    apart_each (InBss c) (InBss e) f g o m n p q x a b i j =
        area_apart l.bss_segment c e x (clear-tested c e o) (rw a at i) (rw b at j)
    apart_each (InBss c) Nowhere f g o m n p q x a b i j = b
    apart_each Nowhere w f g o m n p q x a b i j = a
