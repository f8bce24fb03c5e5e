-- A relocated word of the image meets no byte that the linker reads or writes exactly if the test says so; one of the lent areas meets none.
use Rattle.std.specs.Prelude.{ℕ, ◌+◌, ◌≤◌, ◌<◌, ◌⊎◌, Bool, ◌||◌, leb, ltb}
use Rattle.std.proofs.Math.Path.{◌≡◌, refl, sym}
use Rattle.std.proofs.Common.{◌∙◌, inl, inr, ⊎_elim}
use Rattle.std.proofs.Math.Bool.{true, false, not}
use native.Mathlib.Omega.{arith}
use Rattle.std.proofs.Math.Decide.{ℕ_discrete, dec_lt}
use borrow.Author.Tests.{leb-true, lt-ltb, ltb-true, not-true}
use Rattle.window.specs.Within.{In}
use Rattle.window.specs.Mirror.{word}
use Rattle.layout.specs.Header.{module_name_offset}
use Rattle.linker_spec.specs.declared.rebase.LoadArguments.{LoadArguments}
use Rattle.writer_spec.specs.Words.{word_inside, touched_byte, word_off}
use Rattle.writer_spec.specs.declared.words.Room.{Room}
use Rattle.writer_spec.specs.declared.words.WordPlace.{WordPlace}
use Rattle.writer_spec.specs.declared.words.WordPlace.TheVariants.{InImage, InData, InBss, Nowhere}
use Rattle.writer_laid.specs.Cases.{either, one_of}
use Rattle.writer_laid.specs.InPlace.Places.{apart_disjoint, Holds}
use Rattle.writer_laid.specs.InPlace.Standing.{Stands}
use Rattle.writer_laid.specs.InPlace.Far.{far_lent}

-- a test of the four bytes of a word
module _ (test : ℕ → Bool) (c : ℕ) where
  abbrev of_four : Bool
  of_four = test c || (test (c + 1) || (test (c + 2) || test (c + 3)))

  one-of_four : (o : ℕ) → In c 4 o → test o ≡ true → of_four ≡ true
  one-of_four o i h = go (ℕ_discrete o c) (ℕ_discrete o (c + 1)) (ℕ_discrete o (c + 2))
    where
      first : (test c ≡ true) ⊎ ((test (c + 1) || (test (c + 2) || test (c + 3))) ≡ true) → of_four ≡ true
      first g = one_of (test c) (test (c + 1) || (test (c + 2) || test (c + 3))) g

      second : (test (c + 1) ≡ true) ⊎ ((test (c + 2) || test (c + 3)) ≡ true) → of_four ≡ true
      second g = first (inr (one_of (test (c + 1)) (test (c + 2) || test (c + 3)) g))

      go : Dec (o ≡ c) → Dec (o ≡ c + 1) → Dec (o ≡ c + 2) → of_four ≡ true
      go (yes e) f g = first (inl (rw e at h))
      go (no e) (yes f) g = second (inl (rw f at h))
      go (no e) (no f) (yes g) = second (inr (one_of (test (c + 2)) (test (c + 3)) (inl (rw g at h))))
      go (no e) (no f) (no g) =
          let k : o ≡ c + 3 = omega arith in second (inr (one_of (test (c + 2)) (test (c + 3)) (inr (rw k at h))))

  four_one : of_four ≡ true → (o : ℕ) × In c 4 o × (test o ≡ true)
  four_one h = first (either (test c) _ h)
    where
      third : (test (c + 2) ≡ true) ⊎ (test (c + 3) ≡ true) → (o : ℕ) × In c 4 o × (test o ≡ true)
      third (inl g) = (c + 2, omega arith, g)
      third (inr g) = (c + 3, omega arith, g)

      second : (test (c + 1) ≡ true) ⊎ ((test (c + 2) || test (c + 3)) ≡ true) → (o : ℕ) × In c 4 o × (test o ≡ true)
      second (inl g) = (c + 1, omega arith, g)
      second (inr g) = third (either (test (c + 2)) (test (c + 3)) g)

      first : (test c ≡ true) ⊎ ((test (c + 1) || (test (c + 2) || test (c + 3))) ≡ true) → (o : ℕ) × In c 4 o × (test o ≡ true)
      first (inl g) = (c, omega arith, g)
      first (inr g) = second (either (test (c + 1)) (test (c + 2) || test (c + 3)) g)

-- no byte of a word at that offset is touched
abbrev pub Untouched : (ℕ → ℕ) → ℕ → Type 0
Untouched F c = (o : ℕ) → In c 4 o → touched_byte F o ≡ true → ⊥

module _ (F : ℕ → ℕ) (room : Room) (c : ℕ) where
  -- what the test says of a word that does not start past the image's end
  pub off-tested : c ≤ room.size → word_off F room (InImage c) ≡ true → (c + 4 ≤ word F module_name_offset) ⊎ Untouched F c
  unfolding word_off
  off-tested m h = go (either (leb (c + 4) (word F module_name_offset)) (ltb room.size c || not (of_four (touched_byte F) c)) h)
    where
      no_four : not (of_four (touched_byte F) c) ≡ true → Untouched F c
      no_four g o i t =
          let z : ◌≡◌ {A = Bool} true false = sym (one-of_four (touched_byte F) c o i t) ∙ not-true (of_four (touched_byte F) c) g in
          let y : ◌≡◌ {A = ℕ} 0 1 = cc in
          omega arith

      go
          : (leb (c + 4) (word F module_name_offset) ≡ true) ⊎ ((ltb room.size c || not (of_four (touched_byte F) c)) ≡ true)
          → (c + 4 ≤ word F module_name_offset) ⊎ Untouched F c
      go (inl g) = inl (leb-true (c + 4) (word F module_name_offset) g)
      go (inr g) =
          ⊎_elim (λ k. absurd (omega (arith, ltb-true room.size c k))) (λ k. inr (no_four k))
          (either (ltb room.size c) (not (of_four (touched_byte F) c)) g)

  pub off_test : (c ≤ room.size → Untouched F c) → word_off F room (InImage c) ≡ true
  unfolding word_off
  off_test h = go (dec_lt room.size c)
    where
      test : (b : Bool) → of_four (touched_byte F) c ≡ b → c ≤ room.size → not b ≡ true
      test false e m = refl
      test true e m = let r = four_one (touched_byte F) c e in absurd (h m r.0 r.1 r.2)

      go : Dec (room.size < c) → word_off F room (InImage c) ≡ true
      go (yes m) =
          one_of (leb (c + 4) (word F module_name_offset)) (ltb room.size c || not (of_four (touched_byte F) c))
          (inr (one_of (ltb room.size c) (not (of_four (touched_byte F) c)) (inl (lt-ltb room.size c m))))
      go (no m) =
          one_of (leb (c + 4) (word F module_name_offset)) (ltb room.size c || not (of_four (touched_byte F) c))
          (inr
          (one_of (ltb room.size c) (not (of_four (touched_byte F) c)) (inr (test (of_four (touched_byte F) c) refl (omega arith)))))

-- a word of the lent areas: in data, in bss, or past the image's end
abbrev pub Lent : Room → WordPlace → Type 0
Lent room (InImage c) = room.size < c
Lent room (InData t) = Unit {0}
Lent room (InBss t) = Unit {0}
Lent room Nowhere = Unit {0}

-- it meets no byte of the image
pub lent-off
    : (room : Room) (l : LoadArguments) → Holds room l → 0 < room.size → (w : WordPlace) → Lent room w → word_inside room w ≡ true
    → (p q : ℕ) → Stands l w p → In p 4 q → In l.base l.size q
    → ⊥
unfolding word_inside
lent-off room l h image (InData t) m f p q s i j =
    apart_disjoint _ _ _ _ h.image_data q j (omega (arith, leb-true (t + 4) room.data_size f, h.data_enough))
lent-off room l h image (InBss t) m f p q s i j =
    apart_disjoint _ _ _ _ h.image_bss q j (omega (arith, leb-true (t + 4) room.bss_size f, h.bss_enough))
lent-off room l h image Nowhere m f p q s i j = s
lent-off room l h image (InImage c) m f p q s i j =
    ⊎_elim (λ k. apart_disjoint _ _ _ _ h.image_data q j k) (λ k. apart_disjoint _ _ _ _ h.image_bss q j k)
    (far_lent room l h image c p q m f s i)
