-- Two files that agree from the Bss size on have the same pairs, tables, entries and strings, and pass the same tests of runs and batches.
use Prim.Native.Nat.{ℕ, zero, suc, ◌+◌, ◌-◌, ◌*◌, ◌/◌, ◌≤◌, ◌<◌}
use Rattle.std.specs.Prelude.{◌≡◌, ◌&&◌, eqb, ltb, leb}
use Rattle.std.proofs.Math.Path.{refl}
use Rattle.std.proofs.Common.{ap, ◌∙◌, arith}
use Rattle.std.proofs.Math.Bool.{not}
use Rattle.std.proofs.Math.Decide.{dec_le}
use borrow.Author.Tests.{lt-leb}
use Rattle.window.specs.Mirror.{word, word_same}
use Rattle.layout.specs.Header.{bss_size, module_name_offset, export_strings_offset, import_strings_offset}
use Rattle.linker_spec.specs.Relocation.{batch_limit}
use Rattle.history.specs.Image.{Table, tables, segments, named_exports, indexed_exports, module_entries, externals, named_imports, indexed_imports, anonymous_imports, internals, start, count, entry, end_mark}
use Rattle.history.specs.WellLaid.{table_number, Pointer, of_module, of_export, of_import, of_entry}
use Rattle.writer_spec.specs.All.{all_below, all_same}
use Rattle.writer_spec.specs.Description.{pair_block}
use Rattle.writer_spec.specs.Runs.{indexed_run, anonymous_run, runs_meet_not, run_pointer, run_length, is_run, runs_inside, runs_apart, runs_good}
use Rattle.writer_spec.specs.Batches.{batch_ends, batch_begins, batch_entry, is_batch, batch_of, batches_in, import_count, import_batch, batches_apart, batches_good}
use Rattle.writer_spec.specs.Words.{in_table, in_run, asked, import_byte, long_before, string_byte, in_whole_table, touched_byte}
use Rattle.writer_laid.specs.Alone.Layout.{PairsInOrder}
use Rattle.writer_laid.specs.Alone.Pairs.{StringArea, name_area, export_area, import_area, field-after-name, table-inside, area_inside}
use Rattle.writer_laid.specs.Alone.Strings.{StringIn, StringOfArea, AreasNamed}

module _ (F G : ℕ → ℕ) (agree : (o : ℕ) → bss_size ≤ o → G o ≡ F o) where
  word_agree : (o : ℕ) → bss_size ≤ o → word G o ≡ word F o
  word_agree o l = word_same G F o (λ k m. agree (o + k) (omega arith))

  pair_agree : (k : ℕ) → pair_block G k ≡ pair_block F k
  unfolding pair_block
  pair_agree k = rw (word_agree (module_name_offset + 8 * k) (omega arith), word_agree (module_name_offset + (8 * k + 4)) (omega arith))

  pub start_agree : (t : Table) → bss_size ≤ t.field → start G t ≡ start F t
  unfolding start
  start_agree t l = word_agree t.field l

  pub count_agree : (t : Table) → bss_size ≤ t.field → count G t ≡ count F t
  unfolding count
  count_agree t l = word_agree (t.field + 4) (omega arith)

  pub entry_agree : (t : Table) → bss_size ≤ t.field → (i : ℕ) → entry G t i ≡ entry F t i
  unfolding entry
  entry_agree t l i = rw (start_agree t l)

  -- a table whose offset and entries stand where the files agree
  abbrev pub After : Table → Type 0
  After t = (bss_size ≤ t.field) × (bss_size ≤ start F t)

  entry-after : (t : Table) → After t → (i : ℕ) → bss_size ≤ entry F t i
  unfolding entry
  entry-after t after i = omega (arith, after.1)

  pub entry-word : (t : Table) → After t → (i r : ℕ) → word G (entry G t i + r) ≡ word F (entry F t i + r)
  entry-word t after i r = rw (entry_agree t after.0 i) (word_agree (entry F t i + r) (omega (arith, entry-after t after i)))

  pub entry-first-word : (t : Table) → After t → (i : ℕ) → word G (entry G t i) ≡ word F (entry F t i)
  entry-first-word t after i = rw (entry_agree t after.0 i) (word_agree (entry F t i) (entry-after t after i))

  pub entry_byte : (t : Table) → After t → (i r : ℕ) → G (entry G t i + r) ≡ F (entry F t i + r)
  entry_byte t after i r = rw (entry_agree t after.0 i) (agree (entry F t i + r) (omega (arith, entry-after t after i)))

  pub pairs_agree : (end size : ℕ) → end ≤ size → PairsInOrder F end → PairsInOrder G size
  pairs_agree end size l in_order =
      record {
        pair_inside = λ k m. let inside = in_order.pair_inside k m in rw (pair_agree k) (inside.0, omega (arith, inside.1));
        pair_before = λ j k m n. rw (pair_agree j, pair_agree k) (in_order.pair_before j k m n);
      }

  -- a string that starts where the files agree
  string_agree : (from to p ending : ℕ) → bss_size ≤ from → StringIn F from to p ending → StringIn G from to p ending
  string_agree from to p ending l string =
      let after = string.after-start in
      let there = string.string_there in
      record {
        after-start = after;
        after-zero = λ m. agree (p - 1) (omega arith) ∙ string.after-zero m;
        string_there =
            record {
              ordered = there.ordered;
              short = there.short;
              zero-there = agree ending (omega (arith, there.ordered)) ∙ there.zero-there;
              no_zero_before = λ q m n. rw (agree q (omega arith)) (there.no_zero_before q m n);
            };
        before_end = string.before_end;
      }

  module _ (end : ℕ) (in_order : PairsInOrder F end) where
    pub table-after : (n : ℕ) → n < 12 → After (table_number n)
    table-after n l = (omega (arith, field-after-name n l), omega (arith, table-inside F end in_order n l))

    -- the tables that the tests read
    entries_after : After module_entries
    unfolding tables
    entries_after = table-after 4 (omega arith)

    externals-after : After externals
    unfolding tables
    externals-after = table-after 5 (omega arith)

    named-after : After named_imports
    unfolding tables
    named-after = table-after 6 (omega arith)

    indexed_after : After indexed_imports
    unfolding tables
    indexed_after = table-after 7 (omega arith)

    anonymous_after : After anonymous_imports
    unfolding tables
    anonymous_after = table-after 8 (omega arith)

    -- the runs
    run_pointer_agree : (r j : ℕ) → run_pointer G r j ≡ run_pointer F r j
    unfolding run_pointer
    run_pointer_agree r j = entry-word module_entries entries_after j r

    run-length_agree : (r j : ℕ) → run_length G r j ≡ run_length F r j
    unfolding run_length
    run-length_agree r j = entry-word module_entries entries_after j (r + 4)

    is_run_agree : (t : Table) → bss_size ≤ t.field → (p n : ℕ) → is_run G t p n ≡ is_run F t p n
    unfolding is_run
    is_run_agree t l p n = rw (start_agree t l, count_agree t l)

    runs_inside_agree : (t : Table) → bss_size ≤ t.field → (r : ℕ) → runs_inside G t r ≡ runs_inside F t r
    unfolding runs_inside
    runs_inside_agree t l r =
        rw (count_agree module_entries entries_after.0)
        (all_same (count F module_entries) (λ j. is_run G t (run_pointer G r j) (run_length G r j)) (λ j. is_run F t (run_pointer F r j) (run_length F r j))
        (λ j m. rw (run_pointer_agree r j, run-length_agree r j) (is_run_agree t l (run_pointer F r j) (run_length F r j))))

    runs_apart_agree : (r : ℕ) → runs_apart G r ≡ runs_apart F r
    unfolding runs_apart
    runs_apart_agree r =
        rw (count_agree module_entries entries_after.0)
        (all_same (count F module_entries)
        (λ j. all_below j (λ i. runs_meet_not (run_pointer G r i) (run_length G r i) (run_pointer G r j) (run_length G r j)))
        (λ j. all_below j (λ i. runs_meet_not (run_pointer F r i) (run_length F r i) (run_pointer F r j) (run_length F r j)))
        (λ j m.
        all_same j (λ i. runs_meet_not (run_pointer G r i) (run_length G r i) (run_pointer G r j) (run_length G r j))
        (λ i. runs_meet_not (run_pointer F r i) (run_length F r i) (run_pointer F r j) (run_length F r j))
        (λ i n. rw (run_pointer_agree r i, run-length_agree r i, run_pointer_agree r j, run-length_agree r j))))

    pub runs_agree : runs_good G ≡ runs_good F
    unfolding runs_good
    runs_agree =
        rw (
          runs_inside_agree indexed_imports indexed_after.0 indexed_run,
          runs_inside_agree anonymous_imports anonymous_after.0 anonymous_run,
          runs_apart_agree indexed_run,
          runs_apart_agree anonymous_run,
        )

    -- the batches
    end_mark_agree : (e : ℕ) → end_mark G e ≡ end_mark F e
    unfolding end_mark
    end_mark_agree e = entry_byte externals externals-after e 5

    batch_ends_agree : (n e : ℕ) → batch_ends G n e ≡ batch_ends F n e
    unfolding batch_ends
    batch_ends_agree zero e = refl
    batch_ends_agree (suc n) e =
        rw (count_agree externals externals-after.0, end_mark_agree e, batch_ends_agree n (suc e))

    is_batch_agree : (b : ℕ) → is_batch G b ≡ is_batch F b
    unfolding is_batch batch_begins batch_entry
    is_batch_agree b =
        rw (
          start_agree externals externals-after.0,
          end_mark_agree ((b - start F externals) / 12 - 1),
          batch_ends_agree batch_limit ((b - start F externals) / 12),
        )

    batch_of_agree : (t : Table) → After t → (i : ℕ) → batch_of G t i ≡ batch_of F t i
    unfolding batch_of
    batch_of_agree t after i = entry-word t after i 4

    batches_in_agree : (t : Table) → After t → batches_in G t ≡ batches_in F t
    unfolding batches_in
    batches_in_agree t after =
        rw (count_agree t after.0)
        (all_same (count F t) (λ i. is_batch G (batch_of G t i)) (λ i. is_batch F (batch_of F t i))
        (λ i l. rw (batch_of_agree t after i) (is_batch_agree (batch_of F t i))))

    import_batch_agree : (i : ℕ) → import_batch G i ≡ import_batch F i
    unfolding import_batch
    import_batch_agree i =
        rw (
          count_agree named_imports named-after.0,
          count_agree indexed_imports indexed_after.0,
          batch_of_agree named_imports named-after i,
          batch_of_agree indexed_imports indexed_after (i - count F named_imports),
          batch_of_agree anonymous_imports anonymous_after (i - (count F named_imports + count F indexed_imports)),
        )

    import_count_agree : import_count G ≡ import_count F
    unfolding import_count
    import_count_agree =
        rw (
          count_agree named_imports named-after.0,
          count_agree indexed_imports indexed_after.0,
          count_agree anonymous_imports anonymous_after.0,
        )

    batches_apart_agree : batches_apart G ≡ batches_apart F
    unfolding batches_apart
    batches_apart_agree =
        rw import_count_agree
        (all_same (import_count F) (λ k. all_below k (λ i. not (eqb (import_batch G i) (import_batch G k))))
        (λ k. all_below k (λ i. not (eqb (import_batch F i) (import_batch F k))))
        (λ k l.
        all_same k (λ i. not (eqb (import_batch G i) (import_batch G k))) (λ i. not (eqb (import_batch F i) (import_batch F k)))
        (λ i m. rw (import_batch_agree i, import_batch_agree k))))

    pub batches_agree : batches_good G ≡ batches_good F
    unfolding batches_good
    batches_agree =
        rw (
          batches_in_agree named_imports named-after,
          batches_in_agree indexed_imports indexed_after,
          batches_in_agree anonymous_imports anonymous_after,
          batches_apart_agree,
        )

    -- the strings
    exports_after : After named_exports
    unfolding tables
    exports_after = table-after 1 (omega arith)

    pointer_agree : (p : ℕ) → Pointer G p → Pointer F p
    pointer_agree p of_module = rw (word_agree module_name_offset (omega arith)) of_module
    pointer_agree p (of_export i l) =
        rw (entry-first-word named_exports exports_after i) (of_export i (rw (count_agree named_exports exports_after.0) at l))
    pointer_agree p (of_import i l) =
        rw (entry-first-word named_imports named-after i) (of_import i (rw (count_agree named_imports named-after.0) at l))
    pointer_agree p (of_entry i l) =
        rw (entry-first-word module_entries entries_after i) (of_entry i (rw (count_agree module_entries entries_after.0) at l))

    agree_pointer : (p : ℕ) → Pointer F p → Pointer G p
    agree_pointer p of_module = rw (← (word_agree module_name_offset (omega arith))) of_module
    agree_pointer p (of_export i l) =
        rw (← (entry-first-word named_exports exports_after i)) (of_export i (rw (count_agree named_exports exports_after.0) l))
    agree_pointer p (of_import i l) =
        rw (← (entry-first-word named_imports named-after i)) (of_import i (rw (count_agree named_imports named-after.0) l))
    agree_pointer p (of_entry i l) =
        rw (← (entry-first-word module_entries entries_after i)) (of_entry i (rw (count_agree module_entries entries_after.0) l))

    area_string_agree : (k p ending : ℕ) → StringArea k → StringOfArea F k p ending → StringOfArea G k p ending
    area_string_agree k p ending area string =
        rw (pair_agree k)
        (string_agree (pair_block F k).offset ((pair_block F k).offset + (pair_block F k).size) p ending
        (omega (arith, area_inside F end in_order k area)) string)

    pub areas_agree : AreasNamed F → AreasNamed G
    areas_agree areas =
        record {
          pointer_string = λ p pointer.
              let found = areas.pointer_string p (pointer_agree p pointer) in
              (found.0, found.1, found.2, area_string_agree found.0 p found.2 found.1 found.3);
          area_string = λ k o area inside.
              let found = areas.area_string k o area (rw (pair_agree k) at inside) in
              (found.0, agree_pointer found.0 found.1, found.2, area_string_agree k found.0 found.2 area found.3, found.4, found.5);
        }

    -- the touched bytes
    in_table_agree : (t : Table) → bss_size ≤ t.field → (o : ℕ) → in_table G t o ≡ in_table F t o
    unfolding in_table
    in_table_agree t l o = rw (start_agree t l, count_agree t l, entry_agree t l (count F t))

    in_whole_agree : (o : ℕ) → in_whole_table G o ≡ in_whole_table F o
    unfolding in_whole_table
    in_whole_agree o =
        rw (
          in_table_agree segments (omega arith) o,
          in_table_agree named_exports (omega arith) o,
          in_table_agree indexed_exports (omega arith) o,
          in_table_agree module_entries (omega arith) o,
          in_table_agree externals (omega arith) o,
          in_table_agree named_imports (omega arith) o,
          in_table_agree internals (omega arith) o,
        )

    asked_agree : (r o : ℕ) → asked G r o ≡ asked F r o
    unfolding asked in_run
    asked_agree r o =
        rw (count_agree module_entries entries_after.0)
        (ap not
        (all_same (count F module_entries) (λ j. not (in_run G r j o)) (λ j. not (in_run F r j o))
        (λ j l. rw (run_pointer_agree r j, run-length_agree r j))))

    import_byte_agree : (t : Table) → bss_size ≤ t.field → (r o : ℕ) → import_byte G t r o ≡ import_byte F t r o
    unfolding import_byte
    import_byte_agree t l r o =
        rw (in_table_agree t l o, start_agree t l, asked_agree r (start F t + (o - start F t) / 8 * 8))

    long_agree : (n o : ℕ) → bss_size + n ≤ o → long_before G o n ≡ long_before F o n
    unfolding long_before
    long_agree n o l =
        all_same n (λ i. not (eqb (G (o - suc i)) 0)) (λ i. not (eqb (F (o - suc i)) 0)) (λ i m. rw (agree (o - suc i) (omega arith)))

    -- a string area that starts where the files agree; before its start the test looks at no byte, and at those before o only 512 bytes into it
    string_byte_agree : (field o : ℕ) → bss_size ≤ field → bss_size ≤ word F field → string_byte G field o ≡ string_byte F field o
    unfolding string_byte
    string_byte_agree field o l after =
        rw (word_agree field l, word_agree (field + 4) (omega arith)) (go (dec_le (word F field) o) (dec_le (word F field + 512) o))
      where
        go
            : Dec (word F field ≤ o) → Dec (word F field + 512 ≤ o)
            → (leb (word F field) o
            && (ltb o (word F field + word F (field + 4)) && not (eqb (G o) 0 && (leb (word F field + 512) o && long_before G o 512))))
            ≡ (leb (word F field) o
            && (ltb o (word F field + word F (field + 4)) && not (eqb (F o) 0 && (leb (word F field + 512) o && long_before F o 512))))
        go (no outside) far = rw (lt-leb (word F field) o (omega arith))
        go (yes inside) (yes far) = rw (agree o (omega arith), long_agree 512 o (omega arith))
        go (yes inside) (no near) = rw (agree o (omega arith), lt-leb (word F field + 512) o (omega arith))

    pub touched_agree : (o : ℕ) → touched_byte G o ≡ touched_byte F o
    unfolding touched_byte pair_block
    touched_agree o =
        rw (
          in_whole_agree o,
          import_byte_agree indexed_imports (omega arith) indexed_run o,
          import_byte_agree anonymous_imports (omega arith) anonymous_run o,
          string_byte_agree module_name_offset o (omega arith) (omega (arith, area_inside F end in_order 0 name_area)),
          string_byte_agree export_strings_offset o (omega arith) (omega (arith, area_inside F end in_order 4 export_area)),
          string_byte_agree import_strings_offset o (omega arith) (omega (arith, area_inside F end in_order 11 import_area)),
        )
