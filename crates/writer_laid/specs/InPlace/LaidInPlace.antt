-- An image whose handler and relocated words pass the tests is well laid in each place.
use Rattle.std.specs.Prelude.{ℕ, ◌+◌, ◌≤◌, ◌<◌, ◌≡◌, ◌≢◌, ◌⊎◌, List, true, ◌&&◌}
use Rattle.std.proofs.Common.{sym, ◌∙◌, inl, inr, arith}
use Rattle.std.proofs.Math.Decide.{dec_le, dec_lt}
use Rattle.window.specs.Within.{In}
use Rattle.window.specs.Mirror.{word}
use Rattle.window.specs.Tests.{both}
use Rattle.layout.specs.Header.{module_name_offset, on_unresolved_segment_tag}
use Rattle.linker_spec.specs.declared.rebase.LoadArguments.{LoadArguments}
use Rattle.history.specs.WellLaid.{Part, InPart, Touched, Relocated, NoList, LaidInPlace}
use Rattle.writer_spec.specs.All.{all_below, all-at}
use Rattle.writer_spec.specs.Description.{file_of, image_size, image_of}
use Rattle.writer_spec.specs.Words.{usable, word_kinds, word_count, word_inside, places_apart, far_apart, touched_byte, word_off, words_inside, words_apart, far_words_apart, words_off, words_good}
use Rattle.writer_spec.specs.declared.words.Room.{Room}
use Rattle.writer_spec.specs.declared.words.WordPlace.{WordPlace}
use Rattle.writer_spec.specs.declared.words.WordPlace.TheVariants.{InImage, InData, InBss, Nowhere}
use Rattle.writer_laid.specs.Accepted.{Fits, placed}
use Rattle.writer_laid.specs.InPlace.Places.{Holds, room_for, fits-holds}
use Rattle.writer_laid.specs.InPlace.Standing.{Stands, ApartIn, Bounded}
use Rattle.writer_laid.specs.InPlace.InsideEach.{inside_each}
use Rattle.writer_laid.specs.InPlace.ApartEach.{apart_each}
use Rattle.writer_laid.specs.InPlace.WordOff.{Untouched, off-tested, Lent, lent-off}
use Rattle.writer_laid.specs.InPlace.Numbered.{PackedFacts, word_for, NumberedAt, area_of, image_some, numbered, bounded, handler-laid}

module _ (d : List ℕ) (facts : PackedFacts d) where
  abbrev F : ℕ → ℕ
  F = file_of d

  abbrev G : ℕ → ℕ
  G = file_of (image_of d)

  abbrev room : Room
  room = room_for d

  -- what the tests say of each word and of each two
  module _ (good : words_good F word_kinds room ≡ true) where
    parts
        : (words_inside F word_kinds room ≡ true) × (words_apart F word_kinds room ≡ true) × (far_words_apart F word_kinds room ≡ true)
        × (words_off F word_kinds room ≡ true)
    unfolding words_good
    parts =
        let inside =
        both (words_inside F word_kinds room) (words_apart F word_kinds room && (far_words_apart F word_kinds room && words_off F word_kinds room)) good in
        let apart = both (words_apart F word_kinds room) (far_words_apart F word_kinds room && words_off F word_kinds room) inside.1 in
        let far = both (far_words_apart F word_kinds room) (words_off F word_kinds room) apart.1 in
        (inside.0, apart.0, far.0, far.1)

    each_inside : (k : ℕ) → k < word_count F → word_inside room (word_for d k) ≡ true
    unfolding words_inside
    each_inside k b = all-at (word_count F) (λ i. word_inside room (word_for d i)) parts.0 k b

    each_apart : (i k : ℕ) → i < k → k < word_count F → places_apart (word_for d i) (word_for d k) ≡ true
    unfolding words_apart
    each_apart i k m b =
        all-at k (λ i. places_apart (word_for d i) (word_for d k))
        (all-at (word_count F) (λ k. all_below k (λ i. places_apart (word_for d i) (word_for d k))) parts.1 k b) i m

    each_far : (i k : ℕ) → i < word_count F → k < word_count F → far_apart room (word_for d i) (word_for d k) ≡ true
    unfolding far_words_apart
    each_far i k a b =
        all-at (word_count F) (λ k. far_apart room (word_for d i) (word_for d k))
        (all-at (word_count F) (λ i. all_below (word_count F) (λ k. far_apart room (word_for d i) (word_for d k))) parts.2 i a) k b

    each_off : (k : ℕ) → k < word_count F → word_off F room (word_for d k) ≡ true
    unfolding words_off
    each_off k b = all-at (word_count F) (λ i. word_off F room (word_for d i)) parts.3 k b

    -- so in a place
    module _ (l : LoadArguments) (h : Holds room l) where
      apart-at : (i k : ℕ) → i < k → k < word_count F → ApartIn l (word_for d i) (word_for d k)
      apart-at i k m b =
          let a : i < word_count F = omega arith in
          apart_each room l h (image_some d facts) (word_for d i) (word_for d k) (each_inside i a) (each_inside k b) (each_apart i k m b)
          (each_far i k a b) (each_far k i b a)

      -- no word meets the touched byte o of a part: before the string areas there is no part, past the image no byte of it, else the test says so
      Off-at
          : (w : WordPlace) → Bounded room w → word_inside room w ≡ true → word_off F room w ≡ true → (p : ℕ) → Stands l w p → (s : Part) (o : ℕ)
          → InPart G s o → Touched G s o → In p 4 (l.base + o)
          → ⊥
      Off-at w bound inside off p at s o part touched i = go w bound inside off at
        where
          byte : touched_byte F o ≡ true
          byte = facts.part_touched o s part touched

          lent : (w : WordPlace) → Lent room w → word_inside room w ≡ true → Stands l w p → ⊥
          lent w m inside at =
              lent-off room l h (image_some d facts) w m inside p (l.base + o) at i (omega (arith, facts.touched_inside o byte, h.whole))

          near
              : (c : ℕ) → 0x138 ≤ c → c ≤ image_size d → Stands l (InImage c) p → (c + 4 ≤ word F module_name_offset) ⊎ Untouched F c → ⊥
          near c a m at (inl g) =
              facts.before_areas o (omega (arith, h.base_below, h.whole)) (omega (arith, h.base_below, h.whole)) s part
          near c a m at (inr g) = g o (omega (arith, h.base_below, h.whole)) byte

          go : (w : WordPlace) → Bounded room w → word_inside room w ≡ true → word_off F room w ≡ true → Stands l w p → ⊥
          go (InImage c) bound inside off at = elim (dec_le c (image_size d)) [
            | yes m ↦ near c bound.0 m at (off-tested F room c m off)
            | no m ↦ lent (InImage c) (omega arith) inside at
          ]
          go (InData t) bound inside off at = lent (InData t) tt inside at
          go (InBss t) bound inside off at = lent (InBss t) tt inside at
          go Nowhere bound inside off at = at

      -- two relocations are two numbers, the smaller of which the tests name first
      two
          : {r s : Relocated} {p q : ℕ} → NumberedAt d l r p → NumberedAt d l s q → r ≢ s → (x : ℕ) → In p 4 x → In q 4 x → ⊥
      two {r} {s} {p} {q} v w n x i j = go (dec_lt v.number w.number) (dec_lt w.number v.number)
        where
          go : Dec (v.number < w.number) → Dec (w.number < v.number) → ⊥
          go (yes m) k = apart-at v.number w.number m w.below p q x v.stands w.stands i j
          go (no m) (yes k) = apart-at w.number v.number k v.below q p x w.stands v.stands j i
          go (no m) (no k) = let e : v.number ≡ w.number = omega arith in n (sym v.is ∙ rw e w.is)

      laid-at : usable F (word F on_unresolved_segment_tag) ≡ true → LaidInPlace (placed d l)
      unfolding NoList
      laid-at u =
          record {
            words_inside_lem = λ r p w q i.
                let n = numbered d facts l h r p w in
                area_of d l q (inside_each room l h (image_some d facts) (word_for d n.number) (each_inside n.number n.below) p n.stands q i);
            words-apart = λ r s n p q v w x i j. two (numbered d facts l h r p v) (numbered d facts l h s q w) n x i j;
            words-off = λ r p w s o part touched i.
                let n = numbered d facts l h r p w in
                Off-at (word_for d n.number) (bounded d facts l h n.number) (each_inside n.number n.below) (each_off n.number n.below) p
                n.stands s o part touched i;
            handler-there = handler-laid d facts l h u;
            no_list = tt;
          }

  pub in_place_lem
      : usable F (word F on_unresolved_segment_tag) ≡ true → words_good F word_kinds room ≡ true → (l : LoadArguments) → Fits d l
      → LaidInPlace (placed d l)
  in_place_lem u good l fits = laid-at good l (fits-holds d l fits) u
