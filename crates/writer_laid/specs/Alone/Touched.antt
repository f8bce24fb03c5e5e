-- A packed and named description's test of touched bytes says what the linker reads or writes of its image.
use Rattle.std.specs.Prelude.{ℕ, ◌≤◌, ◌<◌, ◌≡◌, List, true, length}
use Rattle.std.proofs.Common.{sym, ◌∙◌, arith}
use Rattle.window.specs.Mirror.{word}
use Rattle.layout.specs.Header.{module_name_offset, header_size}
use Rattle.history.specs.WellLaid.{Part, header, table, string, InPart, Touched}
use Rattle.writer_spec.specs.Description.{file_of, packed, named, image_size, image_of}
use Rattle.writer_spec.specs.Words.{touched_byte}
use Rattle.writer_laid.specs.Same.{image_byte, image_word}
use Rattle.writer_laid.specs.Alone.Layout.{pairs_in_order}
use Rattle.writer_laid.specs.Alone.Strings.{areas_are_named}
use Rattle.writer_laid.specs.Alone.Agree.{touched_agree}
use Rattle.writer_laid.specs.Alone.LaidAlone.{table-past-name, string_past-name, part-inside, image_in_order, image_areas}
use Rattle.writer_laid.specs.Alone.TouchedLaid.{touched_means, means_touched}

module _ (d : List ℕ) (is_packed : packed d ≡ true) (is_named : named d ≡ true) where
  abbrev G : ℕ → ℕ
  G = file_of (image_of d)

  image_touched : (o : ℕ) → touched_byte G o ≡ touched_byte (file_of d) o
  image_touched o = touched_agree (file_of d) G (image_byte d) (length d) (pairs_in_order d is_packed) o

  -- exactly the bytes of parts that the linker reads or writes
  pub touched_part : (o : ℕ) → touched_byte (file_of d) o ≡ true → (s : Part) × InPart G s o × Touched G s o
  touched_part o h = touched_means G (image_size d) (image_in_order d is_packed) (image_areas d is_packed is_named) o (image_touched o ∙ h)

  pub part_touched : (o : ℕ) (s : Part) → InPart G s o → Touched G s o → touched_byte (file_of d) o ≡ true
  part_touched o s inside touched =
      sym (image_touched o) ∙ means_touched G (image_size d) (image_in_order d is_packed) (image_areas d is_packed is_named) s o inside touched

  -- all of them lie in the description
  pub touched_inside : (o : ℕ) → touched_byte (file_of d) o ≡ true → o < length d
  touched_inside o h =
      let part = touched_means (file_of d) (length d) (pairs_in_order d is_packed) (areas_are_named d is_named) o h in
      part-inside (file_of d) (length d) (pairs_in_order d is_packed) (areas_are_named d is_named) part.0 o part.1

  -- between the header and the module's name there is no part
  pub before_areas : (o : ℕ) → header_size ≤ o → o < word (file_of d) module_name_offset → (s : Part) → InPart G s o → ⊥
  unfolding InPart
  before_areas o low high header inside = omega (arith, inside)
  before_areas o low high (table n) inside =
      omega (arith, image_word d module_name_offset (omega arith), table-past-name G (image_size d) (image_in_order d is_packed) n o inside)
  before_areas o low high (string p) inside =
      omega (arith, image_word d module_name_offset (omega arith), string_past-name G (image_size d) (image_in_order d is_packed) (image_areas d is_packed is_named) p o inside)
