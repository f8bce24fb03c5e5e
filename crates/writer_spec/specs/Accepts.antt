-- Which descriptions the writer takes, computed. `writer_laid` proves that they are those of document 02: packed, with names of at most 512 bytes,
-- with a place, and well laid in each.
use Rattle.std.specs.Prelude.{ℕ, List, Bool, ◌&&◌}
use Rattle.window.specs.Mirror.{word}
use Rattle.layout.specs.Header.{on_unresolved_segment_tag}
use Rattle.writer_spec.specs.Description.{file_of, packed, named, image_size}
use Rattle.writer_spec.specs.Runs.{runs_good}
use Rattle.writer_spec.specs.Batches.{batches_good}
use Rattle.writer_spec.specs.Words.{room_of, usable, place_exists, words_good, word_kinds}

-- what depends on the bytes and the image's size alone, for a set of relocation kinds
unfoldable pub laid_out : (ℕ → ℕ) → List ℕ → ℕ → Bool
laid_out F kinds size =
    place_exists (room_of F size)
    && (usable F (word F on_unresolved_segment_tag) && (runs_good F && (batches_good F && words_good F kinds (room_of F size))))

unfoldable pub accepts : List ℕ → Bool
accepts d = packed d && (named d && laid_out (file_of d) word_kinds (image_size d))
