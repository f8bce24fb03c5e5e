-- The writer's test is exact: it takes a description exactly if document 02 does.
use Rattle.std.specs.Prelude.{ℕ, ◌≤◌, ◌<◌, ◌≡◌, List, true, length}
use Rattle.std.proofs.Common.{arith}
use Rattle.window.specs.Tests.{both, also}
use Rattle.window.specs.Mirror.{word}
use Rattle.layout.specs.Header.{on_unresolved_segment_tag, header_size}
use Rattle.linker_spec.specs.declared.rebase.LoadArguments.{LoadArguments}
use Rattle.history.specs.Image.{tables, start}
use Rattle.history.specs.WellLaid.{table_number, WellLaid}
use Rattle.writer_spec.specs.Description.{file_of, packed, named, image_size}
use Rattle.writer_spec.specs.Runs.{runs_good}
use Rattle.writer_spec.specs.Batches.{batches_good}
use Rattle.writer_spec.specs.Words.{usable, place_exists, words_good, word_kinds}
use Rattle.writer_spec.specs.Accepts.{laid_out, accepts}
use Rattle.writer_laid.specs.Accepted.{Fits, placed, Accepted}
use Rattle.writer_laid.specs.Alone.Layout.{pairs_in_order, segment-in_file, first_area_inside, header-fits}
use Rattle.writer_laid.specs.Alone.Pairs.{table-inside}
use Rattle.writer_laid.specs.Alone.LaidAlone.{laid-alone, alone_runs, alone_batches}
use Rattle.writer_laid.specs.Alone.Touched.{touched_part, part_touched, before_areas, touched_inside}
use Rattle.writer_laid.specs.InPlace.Places.{room_for}
use Rattle.writer_laid.specs.InPlace.Arrangement.{place-exists, some_place}
use Rattle.writer_laid.specs.InPlace.Numbered.{PackedFacts}
use Rattle.writer_laid.specs.InPlace.LaidInPlace.{in_place_lem}
use Rattle.writer_laid.specs.InPlace.OnlyInPlace.{only_in_place}

module _ (d : List ℕ) where
  -- the parts of the test that come after packing and names
  record Tests : Type 0 where
    place-passes : place_exists (room_for d) ≡ true
    handler-passes : usable (file_of d) (word (file_of d) on_unresolved_segment_tag) ≡ true
    runs_pass : runs_good (file_of d) ≡ true
    batches_pass : batches_good (file_of d) ≡ true
    words_pass : words_good (file_of d) word_kinds (room_for d) ≡ true

  laid-tests : laid_out (file_of d) word_kinds (image_size d) ≡ true → Tests
  unfolding laid_out
  laid-tests h =
      let place = both (place_exists (room_for d)) _ h in
      let handler = both (usable (file_of d) (word (file_of d) on_unresolved_segment_tag)) _ place.1 in
      let runs = both (runs_good (file_of d)) _ handler.1 in
      let batches = both (batches_good (file_of d)) _ runs.1 in
      record {
        place-passes = place.0;
        handler-passes = handler.0;
        runs_pass = runs.0;
        batches_pass = batches.0;
        words_pass = batches.1;
      }

  tests-laid : Tests → laid_out (file_of d) word_kinds (image_size d) ≡ true
  unfolding laid_out
  tests-laid t =
      also t.place-passes (also t.handler-passes (also t.runs_pass (also t.batches_pass t.words_pass)))

  module _ (is_packed : packed d ≡ true) (is_named : named d ≡ true) where
    past-header : (n : ℕ) → n < 12 → header_size ≤ start (file_of d) (table_number n)
    past-header n l = (table-inside (file_of d) (length d) (pairs_in_order d is_packed) n l).0

    facts : PackedFacts d
    unfolding tables
    facts =
        record {
          header-fits = header-fits d is_packed;
          first_area_inside = first_area_inside d is_packed;
          segments-past = past-header 0 (omega arith);
          externals-past = past-header 5 (omega arith);
          internals-past = past-header 10 (omega arith);
          segment-in_file = segment-in_file d is_packed;
          touched_part = touched_part d is_packed is_named;
          part_touched = part_touched d is_packed is_named;
          before_areas = before_areas d is_packed is_named;
          touched_inside = touched_inside d is_packed is_named;
        }

    -- what passes the tests is well laid in each place
    well_laid_each : Tests → (l : LoadArguments) → Fits d l → WellLaid (placed d l)
    well_laid_each t l fits =
        record {
          alone = rw fits.whole (laid-alone d is_packed is_named t.runs_pass t.batches_pass);
          in_place_lem = in_place_lem d facts t.handler-passes t.words_pass l fits;
        }

    -- what has a place and is well laid in each passes the tests
    tests_pass : (l : LoadArguments) → Fits d l → ((m : LoadArguments) → Fits d m → WellLaid (placed d m)) → Tests
    tests_pass l fits laid =
        let alone = rw fits.whole at (laid l fits).alone in
        let words = only_in_place d facts (λ m fitting. (laid m fitting).in_place_lem) l fits in
        record {
          place-passes = place-exists d l fits (omega (arith, header-fits d is_packed));
          handler-passes = words.0;
          runs_pass = alone_runs d is_packed alone;
          batches_pass = alone_batches d is_packed alone;
          words_pass = words.1;
        }

-- "It refuses exactly .."
pub accepts-laid : (d : List ℕ) → accepts d ≡ true → Accepted d
unfolding accepts
accepts-laid d h =
    let packing = both (packed d) _ h in
    let naming = both (named d) _ packing.1 in
    let tests = laid-tests d naming.1 in
    record {
      is_packed = packing.0;
      is_named = naming.0;
      has_place = some_place d tests.place-passes;
      well_laid = well_laid_each d packing.0 naming.0 tests;
    }

pub accepts_only : (d : List ℕ) → Accepted d → accepts d ≡ true
unfolding accepts
accepts_only d a =
    also a.is_packed (also a.is_named (tests-laid d (tests_pass d a.is_packed a.is_named a.has_place.0 a.has_place.1 a.well_laid)))

pub accepts_exact : (d : List ℕ) → (accepts d ≡ true → Accepted d) × (Accepted d → accepts d ≡ true)
accepts_exact d = (accepts-laid d, accepts_only d)
