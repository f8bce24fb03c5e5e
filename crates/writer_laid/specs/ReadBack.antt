-- "Reading the image back gives the description again."
use Rattle.std.specs.Prelude.{ℕ, zero, suc, ◌+◌, ◌-◌, ◌<◌, ◌≡◌, refl, ◌⊎◌, List, true, eqb}
use Rattle.std.proofs.Common.{sym, ◌∙◌, ext_get_or, eqb-true}
use Rattle.std.proofs.Math.Logic.{inl, inr}
use native.Mathlib.Omega.{arith}
use Rattle.std.proofs.Math.ListN.{length}
use Rattle.window.specs.Tests.{both}
use Rattle.window.specs.Within.{In, dec_in, in_range}
use Rattle.window.specs.Bytes.{byte_of}
use Rattle.window.specs.Mirror.{put4, put4_on, put4-off}
use Rattle.layout.specs.Header.{magic, name_offset, next_cro, file_size, bss_size, static_relocation_table_offset}
use Rattle.writer_spec.specs.All.{all-at}
use Rattle.writer_spec.specs.Description.{file_of, zeros, header_zeros, packed, image_size, cro0, image_file, image_of, first_bytes, described_size, read_back}
use Rattle.writer_spec.specs.FirstBytes.{first-length, first-at}
use Rattle.writer_laid.specs.Same.{image_word}
use Rattle.writer_laid.specs.Alone.Layout.{description_length, header-zeros, image_holds}

-- zeros, one by one
zeros-at : (F : ℕ → ℕ) (o n : ℕ) → zeros F o n ≡ true → (q : ℕ) → In o n q → F q ≡ 0
unfolding zeros
zeros-at F o n h q inside =
    in_range (λ x. F x ≡ 0) o n q inside (λ k l. eqb-true (F (o + k)) 0 (all-at n (λ i. eqb (F (o + i)) 0) h k l))

-- a word of 0 has bytes of 0
byte_of-zero : (k : ℕ) → byte_of k 0 ≡ 0
unfolding byte_of
byte_of-zero zero = refl
byte_of-zero (suc k) = byte_of-zero k

put4-zero : (M : ℕ → ℕ) (p q : ℕ) → In p 4 q → put4 M p 0 q ≡ 0
put4-zero M p q inside =
    in_range (λ x. put4 M p 0 x ≡ 0) p 4 q inside (λ k l. put4_on M p 0 k l ∙ byte_of-zero k)

module _ (d : List ℕ) (is_packed : packed d ≡ true) where
  described_size_lem : described_size (image_of d) ≡ length d
  unfolding described_size
  described_size_lem = image_word d static_relocation_table_offset (omega arith) ∙ description_length d is_packed

  -- the magic and the length are 0 in a description
  given-zero : (o : ℕ) → In magic 4 o ⊎ In file_size 4 o → file_of d o ≡ 0
  unfolding header_zeros
  given-zero o given =
      let outer = both (zeros (file_of d) 0 name_offset) _ (header-zeros d is_packed) in
      let inner = both (zeros (file_of d) next_cro (bss_size - next_cro)) _ outer.1 in
      elim given [
        | inl in-magic ↦ zeros-at (file_of d) 0 name_offset outer.0 o (omega arith, omega (arith, in-magic.1))
        | inr in-length ↦
            zeros-at (file_of d) next_cro (bss_size - next_cro) inner.0 o (omega (arith, in-length.0), omega (arith, in-length.1))
      ]

  -- the image has the description's byte everywhere else
  image_elsewhere : (o : ℕ) → o < length d → (In magic 4 o → ⊥) → (In file_size 4 o → ⊥) → file_of (image_of d) o ≡ file_of d o
  unfolding image_of image_file file_of
  image_elsewhere o l off-magic off-length =
      first-at (image_size d) (image_file d) o (omega (arith, image_holds d is_packed))
      ∙ put4-off (put4 (file_of d) magic cro0) file_size (image_size d) o off-length
      ∙ put4-off (file_of d) magic cro0 o off-magic

  byte_back : (o : ℕ) → o < length d → put4 (put4 (file_of (image_of d)) magic 0) file_size 0 o ≡ file_of d o
  byte_back o l = go (dec_in file_size 4 o) (dec_in magic 4 o)
    where
      go : Dec (In file_size 4 o) → Dec (In magic 4 o) → put4 (put4 (file_of (image_of d)) magic 0) file_size 0 o ≡ file_of d o
      go (yes in-length) m = put4-zero (put4 (file_of (image_of d)) magic 0) file_size o in-length ∙ sym (given-zero o (inr in-length))
      go (no off-length) (yes in-magic) =
          put4-off (put4 (file_of (image_of d)) magic 0) file_size 0 o off-length
          ∙ put4-zero (file_of (image_of d)) magic o in-magic
          ∙ sym (given-zero o (inl in-magic))
      go (no off-length) (no off-magic) =
          put4-off (put4 (file_of (image_of d)) magic 0) file_size 0 o off-length
          ∙ put4-off (file_of (image_of d)) magic 0 o off-magic
          ∙ image_elsewhere o l off-magic off-length

  pub read_back_lem : read_back (image_of d) ≡ d
  unfolding read_back file_of
  read_back_lem =
      let bytes = put4 (put4 (file_of (image_of d)) magic 0) file_size 0 in
      rw described_size_lem
      (ext_get_or 0 (first_bytes (length d) bytes) d (first-length (length d) bytes)
      (λ o l. let low : o < length d = omega (arith, l, first-length (length d) bytes) in first-at (length d) bytes o low ∙ byte_back o low))
