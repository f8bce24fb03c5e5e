-- The image has the description's bytes, from the Bss size on: all but the magic and the length.
use Rattle.std.specs.Prelude.{ℕ, ◌+◌, ◌≤◌, ◌<◌, ◌≡◌, List, length}
use Rattle.std.proofs.Math.Path.{sym}
use Rattle.std.proofs.Common.{◌∙◌, arith}
use Rattle.std.proofs.Math.Decide.{dec_lt}
use Rattle.std.proofs.Math.ListN.{get_or, get_or-eq_default}
use Rattle.window.specs.Mirror.{word, word_same, put4, put4-off}
use Rattle.writer_spec.specs.FirstBytes.{first-length, first-at}
use Rattle.writer_spec.specs.Description.{file_of, image_size, image_file, image_of, first_bytes}

module _ (d : List ℕ) where
  pub image_length : length (image_of d) ≡ image_size d
  unfolding image_of
  image_length = first-length (image_size d) (image_file d)

  pub image_byte : (o : ℕ) → 0x94 ≤ o → file_of (image_of d) o ≡ file_of d o
  unfolding image_of image_file file_of
  image_byte o h = go (dec_lt o (image_size d))
    where
      go : Dec (o < image_size d) → get_or (first_bytes (image_size d) (image_file d)) o 0 ≡ get_or d o 0
      go (yes l) =
          first-at (image_size d) (image_file d) o l
          ∙ put4-off (put4 (file_of d) 0x80 0x304f5243) 0x90 (image_size d) o (λ i. absurd (omega (arith, i.1)))
          ∙ put4-off (file_of d) 0x80 0x304f5243 o (λ i. absurd (omega (arith, i.1)))
      go (no l) =
          get_or-eq_default (first_bytes (image_size d) (image_file d)) 0 (omega (arith, first-length (image_size d) (image_file d)))
          ∙ sym (get_or-eq_default d 0 (omega arith))

  pub image_word : (o : ℕ) → 0x94 ≤ o → word (file_of (image_of d)) o ≡ word (file_of d) o
  image_word o h = word_same (file_of (image_of d)) (file_of d) o (λ k l. image_byte (o + k) (omega arith))
