-- The test of touched bytes says what the linker reads or writes of an image's parts.
use Prim.Native.Nat.{ℕ, suc, ◌+◌, ◌-◌, ◌*◌, ◌/◌, ◌%◌, ◌≤◌, ◌<◌}
use Rattle.std.specs.Prelude.{◌≡◌, ◌≢◌, List, [], ◌∷◌, Bool, false, ◌&&◌, ◌||◌, get_or, eqb, ltb, leb}
use Rattle.std.proofs.Math.Path.{refl, ap}
use Rattle.std.proofs.Common.{sym, ◌∙◌}
use Rattle.std.proofs.Math.Bool.{true, not}
use native.Mathlib.Omega.{arith}
use Rattle.std.proofs.Math.Nat.{mul-one}
use Rattle.std.proofs.Math.Decide.{dec_lt, dec_le}
use borrow.Author.Tests.{eqb-true, eqb-false, ltb-true, leb-true, eq-eqb, ne_eqb, lt-ltb, le-leb, not-true, not-false}
use Rattle.window.specs.Tests.{both, also}
use Rattle.window.specs.Within.{In}
use Rattle.window.specs.Mirror.{word}
use Rattle.layout.specs.Header.{module_name_offset, export_strings_offset, import_strings_offset, header_size}
use Rattle.layout.specs.Tables.{table_entry_sizes}
use Rattle.history.specs.Image.{Table, tables, segments, named_exports, indexed_exports, module_entries, externals, named_imports, indexed_imports, anonymous_imports, internals, start, count, entry}
use Rattle.history.specs.Imports.{Import, named, indexed, anonymous, import_table, IsImport, import_entry, run_start, run_count, InRun}
use Rattle.history.specs.WellLaid.{Part, header, table, string, table_number, InPart, Asked, Touched}
use Rattle.history.specs.Steps.Parts.{touched_other, touched_import}
use Rattle.writer_spec.specs.All.{all_below, all-at, all_true, all_false, all_fails}
use Rattle.writer_spec.specs.Description.{pair_block}
use Rattle.writer_spec.specs.Runs.{indexed_run, anonymous_run, run_pointer, run_length}
use Rattle.writer_spec.specs.Words.{in_table, in_run, asked, import_byte, long_before, string_byte, in_whole_table, touched_byte}
use Rattle.writer_laid.specs.Cases.{contradiction, any_at, or_cases, or_left, or_right, false_not, not_so}
use Rattle.writer_laid.specs.Alone.Layout.{PairsInOrder}
use Rattle.writer_laid.specs.Alone.Pairs.{each_table, StringArea, name_area, export_area, import_area, InPair, area_inside}
use Rattle.writer_laid.specs.Alone.Strings.{StringOfArea, AreasNamed}
use Rattle.writer_laid.specs.Alone.LaidAlone.{in_area}

module _ (F : ℕ → ℕ) where
  -- an offset in a table
  abbrev InTable : Table → ℕ → Type 0
  InTable t o = In (start F t) (count F t * t.width) o

  in_table_means : (t : Table) (o : ℕ) → in_table F t o ≡ true → InTable t o
  unfolding in_table entry
  in_table_means t o h =
      let tests = both (leb (start F t) o) (ltb o (start F t + count F t * t.width)) h in
      (leb-true (start F t) o tests.0, ltb-true o (start F t + count F t * t.width) tests.1)

  means_in_table : (t : Table) (o : ℕ) → InTable t o → in_table F t o ≡ true
  unfolding in_table entry
  means_in_table t o h = also (le-leb (start F t) o h.0) (lt-ltb o (start F t + count F t * t.width) h.1)

  -- the runs at r of which an offset is one entry's
  abbrev InSomeRun : (r o : ℕ) → Type 0
  InSomeRun r o = (j : ℕ) × (j < count F module_entries) × (a : ℕ) × (a < run_length F r j) × (o ≡ run_pointer F r j + a * 8)

  asked_means : (r o : ℕ) → asked F r o ≡ true → InSomeRun r o
  unfolding asked in_run
  asked_means r o h =
      let found = all_fails (count F module_entries) (λ j. not (in_run F r j o)) (not-true (all_below (count F module_entries) (λ j. not (in_run F r j o))) h) in
      let j = found.0 in
      let outer = both (leb (run_pointer F r j) o) _ (not-false (in_run F r j o) found.2) in
      let inner = both (eqb ((o - run_pointer F r j) % 8) 0) _ outer.1 in
      let after = leb-true (run_pointer F r j) o outer.0 in
      let aligned = eqb-true ((o - run_pointer F r j) % 8) 0 inner.0 in
      (j, found.1, (o - run_pointer F r j) / 8, ltb-true ((o - run_pointer F r j) / 8) (run_length F r j) inner.1, omega arith)

  in_run_true : (r j o a : ℕ) → a < run_length F r j → o ≡ run_pointer F r j + a * 8 → in_run F r j o ≡ true
  unfolding in_run
  in_run_true r j o a low here =
      let same : (o - run_pointer F r j) / 8 ≡ a = omega arith in
      also (le-leb (run_pointer F r j) o (omega arith))
      (also (eq-eqb ((o - run_pointer F r j) % 8) 0 (omega arith)) (rw same (lt-ltb a (run_length F r j) low)))

  means_asked : (r o : ℕ) → InSomeRun r o → asked F r o ≡ true
  unfolding asked
  means_asked r o (j, l, a, low, here) =
      false_not (all_false (count F module_entries) (λ k. not (in_run F r k o)) j l (rw (in_run_true r j o a low here) refl))

  -- a byte that the linker reads or writes, of some part
  abbrev TouchedPart : ℕ → Type 0
  TouchedPart o = (s : Part) × InPart F s o × Touched F s o

  of_table : (n o : ℕ) → n < 12 → InTable (table_number n) o → Touched F (table n) o → TouchedPart o
  unfolding InPart tables
  of_table n o l inside touched = (table n, (l, inside), touched)

  -- table n holds the imports made by `make`, whose runs are at r
  record RunTable (n r : ℕ) (make : ℕ → Import) : Type 0 where
    low : n < 12
    wide : (table_number n).width ≡ 8
    table_of : (x : ℕ) → table_number n ≡ import_table (make x)
    entry_of : (x : ℕ) → import_entry F (make x) ≡ entry F (table_number n) x
    import_of : (x : ℕ) → x < count F (table_number n) → IsImport F (make x)
    asked_of : (x : ℕ) → InSomeRun r (entry F (table_number n) x) → Asked F (make x)
    run_of : (x : ℕ) → Asked F (make x) → InSomeRun r (entry F (table_number n) x)

  indexed_runs : RunTable 7 indexed_run indexed
  unfolding tables import_entry Asked InRun run_start run_count run_pointer run_length
  indexed_runs =
      record {
        low = omega arith;
        wide = refl;
        table_of = λ x. refl;
        entry_of = λ x. refl;
        import_of = λ x l. l;
        asked_of = λ x h. (h.0, h.1, (h.2, h.3, h.4));
        run_of = λ x h. (h.0, h.1, h.2.0, h.2.1, h.2.2);
      }

  anonymous_runs : RunTable 8 anonymous_run anonymous
  unfolding tables import_entry Asked InRun run_start run_count run_pointer run_length
  anonymous_runs =
      record {
        low = omega arith;
        wide = refl;
        table_of = λ x. refl;
        entry_of = λ x. refl;
        import_of = λ x l. l;
        asked_of = λ x h. (h.0, h.1, (h.2, h.3, h.4));
        run_of = λ x h. (h.0, h.1, h.2.0, h.2.1, h.2.2);
      }

  module _ (n r : ℕ) (make : ℕ → Import) (known : RunTable n r make) where
    abbrev t : Table
    t = table_number n

    -- the number of the import at an offset, and the place in its entry
    abbrev number : ℕ → ℕ
    number o = (o - start F t) / 8

    abbrev place : ℕ → ℕ
    place o = (o - start F t) % 8

    entry_place : (o : ℕ) → entry F t (number o) ≡ start F t + number o * 8
    unfolding entry
    entry_place o = ap (λ width. start F t + number o * width) known.wide

    import_at : (o : ℕ) → InTable t o → (number o < count F t) × (import_entry F (make (number o)) + place o ≡ o)
    import_at o inside =
        let bytes : count F t * t.width ≡ count F t * 8 = ap (λ width. count F t * width) known.wide in
        (omega (arith, inside), omega (arith, inside, known.entry_of (number o), entry_place o))

    import_byte-tests
        : (o : ℕ) → import_byte F t r o ≡ true → InTable t o × (place o < 4 → Asked F (make (number o)))
    unfolding import_byte
    import_byte-tests o h =
        let tests = both (in_table F t o) (leb 4 (place o) || asked F r (start F t + number o * 8)) h in (
          in_table_means t o tests.0,
          λ first.
              or_cases (leb 4 (place o)) (λ later. absurd (omega (arith, leb-true 4 (place o) later)))
              (λ wanted. known.asked_of (number o) (rw (entry_place o) (asked_means r (start F t + number o * 8) wanted)))
              tests.1,
        )

    import_byte-part : (o : ℕ) → import_byte F t r o ≡ true → TouchedPart o
    import_byte-part o h =
        let tests = import_byte-tests o h in
        let touched = touched_import F n (make (number o)) (known.table_of (number o)) (place o) (omega arith) tests.1 in
        of_table n o known.low tests.0 (rw (import_at o tests.0).1 at touched)

    part-import_byte : (o : ℕ) → InTable t o → Touched F (table n) o → import_byte F t r o ≡ true
    unfolding import_byte Touched
    part-import_byte o inside touched = also (means_in_table t o inside) (go (dec_le 4 (place o)))
      where
        go : Dec (4 ≤ place o) → (leb 4 (place o) || asked F r (start F t + number o * 8)) ≡ true
        go (yes later) = or_left _ (le-leb 4 (place o) later)
        go (no first) =
            let here = import_at o inside in
            let wanted = touched.3 (make (number o)) (known.import_of (number o) here.0) (known.table_of (number o)) (omega (arith, here.1)) in
            or_right (leb 4 (place o)) (means_asked r (start F t + number o * 8) (rw (entry_place o) at (known.run_of (number o) wanted)))

  -- an import that asks by name is read whole
  named_touched : (o : ℕ) → InTable named_imports o → Touched F (table 6) o
  unfolding tables import_entry entry Asked
  named_touched o inside =
      let number = (o - start F named_imports) / 8 in
      let place = (o - start F named_imports) % 8 in
      let same : import_entry F (named number) + place ≡ o = omega (arith, inside) in
      rw same at (touched_import F 6 (named number) refl place (omega arith) (λ first. tt))

  -- the tables that are read or written whole
  whole_part : (o : ℕ) → in_whole_table F o ≡ true → TouchedPart o
  unfolding in_whole_table tables import_entry Asked
  whole_part o h =
      or_cases (in_table F segments o) (λ found. whole 0 (omega arith) found (touched_other F 0 o refl))
      (or_cases (in_table F named_exports o) (λ found. whole 1 (omega arith) found (touched_other F 1 o refl))
      (or_cases (in_table F indexed_exports o) (λ found. whole 2 (omega arith) found (touched_other F 2 o refl))
      (or_cases (in_table F module_entries o) (λ found. whole 4 (omega arith) found (touched_other F 4 o refl))
      (or_cases (in_table F externals o) (λ found. whole 5 (omega arith) found (touched_other F 5 o refl))
      (or_cases (in_table F named_imports o) (λ found. whole 6 (omega arith) found (named_touched o (in_table_means named_imports o found)))
      (λ found. whole 10 (omega arith) found (touched_other F 10 o refl)))))))
      h
    where
      whole : (n : ℕ) → n < 12 → in_table F (table_number n) o ≡ true → Touched F (table n) o → TouchedPart o
      whole n l found touched = of_table n o l (in_table_means (table_number n) o found) touched

  -- whether the n bytes before o are not 0
  long_at : (n o : ℕ) → long_before F o n ≡ true → (i : ℕ) → i < n → F (o - suc i) ≢ 0
  unfolding long_before
  long_at n o h i l =
      eqb-false (F (o - suc i)) 0 (not-true (eqb (F (o - suc i)) 0) (all-at n (λ j. not (eqb (F (o - suc j)) 0)) h i l))

  long_true : (n o : ℕ) → ((i : ℕ) → i < n → F (o - suc i) ≢ 0) → long_before F o n ≡ true
  unfolding long_before
  long_true n o h = all_true n (λ j. not (eqb (F (o - suc j)) 0)) (λ i l. false_not (ne_eqb (F (o - suc i)) 0 (h i l)))

  -- where a string area's offset and size stand
  abbrev area_field : ℕ → ℕ
  area_field k = module_name_offset + 8 * k

  area_words : (k : ℕ) → StringArea k → ((pair_block F k).offset ≡ word F (area_field k)) × ((pair_block F k).size ≡ word F (area_field k + 4))
  unfolding pair_block table_entry_sizes
  area_words k name_area = (refl, mul-one (word F (area_field 0 + 4)))
  area_words k export_area = (refl, mul-one (word F (area_field 4 + 4)))
  area_words k import_area = (refl, mul-one (word F (area_field 11 + 4)))

  -- the zero after 512 bytes that are not 0, all in the area
  abbrev last_zero : (k o : ℕ) → Bool
  last_zero k o = eqb (F o) 0 && (leb (word F (area_field k) + 512) o && long_before F o 512)

  -- it ends a string of 512 bytes
  last-zero_true : (k p ending : ℕ) → StringArea k → StringOfArea F k p ending → p + 512 ≤ ending → last_zero k ending ≡ true
  last-zero_true k p ending area string-in long =
      let there = string-in.string_there in
      also (eq-eqb (F ending) 0 there.zero-there)
      (also (le-leb (word F (area_field k) + 512) ending (omega (arith, (area_words k area).0, string-in.after-start)))
      (long_true 512 ending (λ i l. there.no_zero_before (ending - suc i) (omega arith) (omega arith))))

  -- and no other string's byte is that zero
  last-zero_far : (k p ending o : ℕ) → StringArea k → StringOfArea F k p ending → p ≤ o → last_zero k o ≡ true → p + 512 ≤ o
  last-zero_far k p ending o area string-in from h =
      let outer = both (eqb (F o) 0) (leb (word F (area_field k) + 512) o && long_before F o 512) h in
      let inner = both (leb (word F (area_field k) + 512) o) (long_before F o 512) outer.1 in
      let far = leb-true (word F (area_field k) + 512) o inner.0 in
      let same : o - suc (o - p) ≡ p - 1 = omega arith in
      elim (dec_le (p + 512) o) [
        | yes long ↦ long
        | no short ↦
            absurd (long_at 512 o inner.1 (o - p) (omega arith) (rw same (string-in.after-zero (omega (arith, (area_words k area).0)))))
      ]

  -- a byte of a string area passes its test exactly if it is not that zero
  string_byte_true : (k o : ℕ) → StringArea k → InPair F k o → last_zero k o ≡ false → string_byte F (area_field k) o ≡ true
  unfolding string_byte
  string_byte_true k o area inside h =
      let words = area_words k area in
      also (le-leb (word F (area_field k)) o (omega (arith, words, inside)))
      (also (lt-ltb o (word F (area_field k) + word F (area_field k + 4)) (omega (arith, words, inside))) (false_not h))

  string_byte-tests : (k o : ℕ) → StringArea k → string_byte F (area_field k) o ≡ true → InPair F k o × (last_zero k o ≡ false)
  unfolding string_byte
  string_byte-tests k o area h =
      let words = area_words k area in
      let outer = both (leb (word F (area_field k)) o) _ h in
      let inner = both (ltb o (word F (area_field k) + word F (area_field k + 4))) _ outer.1 in
      let low = leb-true (word F (area_field k)) o outer.0 in
      let high = ltb-true o (word F (area_field k) + word F (area_field k + 4)) inner.0 in
      ((omega (arith, words), omega (arith, words)), not-true (last_zero k o) inner.1)

  string_byte-short
      : (k p ending o : ℕ) → StringArea k → StringOfArea F k p ending → o ≤ ending → string_byte F (area_field k) o ≡ true → o < p + 512
  string_byte-short k p ending o area string-in to h =
      elim (dec_lt o (p + 512)) [
        | yes short ↦ short
        | no last ↦
            let at-end : o ≡ ending = omega (arith, string-in.string_there.short) in
            let long = last-zero_true k p ending area string-in (omega arith) in
            contradiction (sym (string_byte-tests k o area h).1 ∙ rw at-end long)
      ]

  short-string_byte
      : (k p ending o : ℕ) → StringArea k → StringOfArea F k p ending → p ≤ o → InPair F k o → o < p + 512 → string_byte F (area_field k) o ≡ true
  short-string_byte k p ending o area string-in from inside short =
      string_byte_true k o area inside (not_so (last_zero k o) (λ h. let far = last-zero_far k p ending o area string-in from h in absurd (omega arith)))

  -- one of the tests of touched bytes holds, by its number
  abbrev tests : ℕ → List Bool
  tests o =
      in_whole_table F o
      ∷ import_byte F indexed_imports indexed_run o
      ∷ import_byte F anonymous_imports anonymous_run o
      ∷ string_byte F module_name_offset o
      ∷ string_byte F export_strings_offset o
      ∷ string_byte F import_strings_offset o
      ∷ []

  one_test : (o i : ℕ) → get_or (ltb o header_size ∷ tests o) i false ≡ true → touched_byte F o ≡ true
  unfolding touched_byte
  one_test o i h = any_at (ltb o header_size) (tests o) i h

  -- one of the tables that are read or written whole has the offset, by its number among them
  abbrev whole_tests : ℕ → List Bool
  whole_tests o =
      in_table F named_exports o
      ∷ in_table F indexed_exports o
      ∷ in_table F module_entries o
      ∷ in_table F externals o
      ∷ in_table F named_imports o
      ∷ in_table F internals o
      ∷ []

  one-whole : (o i : ℕ) → get_or (in_table F segments o ∷ whole_tests o) i false ≡ true → touched_byte F o ≡ true
  unfolding in_whole_table
  one-whole o i h = one_test o 1 (any_at (in_table F segments o) (whole_tests o) i h)

  -- a touched byte of a table passes the test; none of the export tree and the two static tables is touched
  table_test : (o n : ℕ) → n < 12 → InTable (table_number n) o → Touched F (table n) o → touched_byte F o ≡ true
  unfolding tables Touched
  table_test o =
      each_table (λ n. InTable (table_number n) o → Touched F (table n) o → touched_byte F o ≡ true)
      (λ inside touched. one-whole o 0 (means_in_table segments o inside))
      (λ inside touched. one-whole o 1 (means_in_table named_exports o inside))
      (λ inside touched. one-whole o 2 (means_in_table indexed_exports o inside))
      (λ inside touched. absurd (touched.0 refl))
      (λ inside touched. one-whole o 3 (means_in_table module_entries o inside))
      (λ inside touched. one-whole o 4 (means_in_table externals o inside))
      (λ inside touched. one-whole o 5 (means_in_table named_imports o inside))
      (λ inside touched. one_test o 2 (part-import_byte 7 indexed_run indexed indexed_runs o inside touched))
      (λ inside touched. one_test o 3 (part-import_byte 8 anonymous_run anonymous anonymous_runs o inside touched))
      (λ inside touched. absurd (touched.1 refl))
      (λ inside touched. one-whole o 6 (means_in_table internals o inside))
      (λ inside touched. absurd (touched.2 refl))

  -- a byte of a string area that passes its test
  string_test : (k o : ℕ) → StringArea k → string_byte F (area_field k) o ≡ true → touched_byte F o ≡ true
  string_test k o name_area h = one_test o 4 h
  string_test k o export_area h = one_test o 5 h
  string_test k o import_area h = one_test o 6 h

  module _ (size : ℕ) (in_order : PairsInOrder F size) (areas : AreasNamed F) where
    string_byte-part : (k o : ℕ) → StringArea k → string_byte F (area_field k) o ≡ true → TouchedPart o
    unfolding InPart Touched
    string_byte-part k o area h =
        let found = areas.area_string k o area (string_byte-tests k o area h).0 in
        let string-in = found.3 in (
          string found.0,
          (
            found.1,
            (λ none. absurd (omega (arith, string-in.after-start, area_inside F size in_order k area))),
            (found.4, λ z l m. string-in.string_there.no_zero_before z l (omega (arith, found.5))),
          ),
          string_byte-short k found.0 found.2 o area string-in found.5 h,
        )

    -- a byte that passes the test is touched
    pub touched_means : (o : ℕ) → touched_byte F o ≡ true → TouchedPart o
    unfolding touched_byte InPart Touched tables
    touched_means o h =
        or_cases (ltb o header_size) (λ found. (header, ltb-true o header_size found, tt))
        (or_cases (in_whole_table F o) (whole_part o)
        (or_cases (import_byte F indexed_imports indexed_run o) (import_byte-part 7 indexed_run indexed indexed_runs o)
        (or_cases (import_byte F anonymous_imports anonymous_run o) (import_byte-part 8 anonymous_run anonymous anonymous_runs o)
        (or_cases (string_byte F module_name_offset o) (string_byte-part 0 o name_area)
        (or_cases (string_byte F export_strings_offset o) (string_byte-part 4 o export_area) (string_byte-part 11 o import_area))))))
        h

    pub means_touched : (s : Part) (o : ℕ) → InPart F s o → Touched F s o → touched_byte F o ≡ true
    unfolding touched_byte InPart Touched tables
    means_touched header o inside touched = or_left _ (lt-ltb o header_size inside)
    means_touched (table n) o inside touched = table_test o n inside.0 inside.1 touched
    means_touched (string p) o inside touched =
        let there = in_area F size in_order areas p o inside in
        string_test there.area o there.is_area_lem
        (short-string_byte there.area p there.ending o there.is_area_lem there.string_of there.from there.in_pair touched)
