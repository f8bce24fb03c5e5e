-- "Reading the image back gives the description again", by demand 3's definitions: each name, segment, tag, import and relocation that they read
-- of the image is the one that they read of the description.
use Rattle.std.specs.Prelude.{ℕ, suc, ◌+◌, ◌-◌, ◌^◌, ◌≤◌, ◌<◌, ◌≡◌, ◌≢◌, List, true, ◌&&◌, length}
use Rattle.std.proofs.Math.Path.{refl}
use Rattle.std.proofs.Common.{sym, ◌∙◌, arith, leb-true}
use Rattle.window.specs.Tests.{both}
use Rattle.window.specs.Memory.{place, byte_at}
use Rattle.window.specs.Access.{run}
use Rattle.window.specs.Name.{name_at, name_from, name_some, name-within}
use Rattle.window.specs.Within.{In}
use Rattle.window.specs.Mirror.{word, mirror}
use Rattle.layout.specs.Header.{on_unresolved_segment_tag, module_name_offset, header_size}
use Rattle.history.specs.Image.{tables, segments, named_exports, indexed_exports, module_entries, externals, named_imports, internals, start, count, entry, name_of, module_name, file_segment, tag, kind, end_mark, symbol_segment, addend}
use Rattle.history.specs.Imports.{Import, named, indexed, anonymous, import_table, import_number, import_entry, wanted, batch, run_start, run_count}
use Rattle.history.specs.WellLaid.{table_number, Pointer, of_module, of_export, of_import, of_entry}
use Rattle.writer_spec.specs.Description as description
use Rattle.writer_spec.specs.Description.{file_of, in_file, packed, image_size, image_of}
use Rattle.writer_spec.specs.Words.{room_of, place_exists, word_kinds}
use Rattle.writer_spec.specs.Accepts.{laid_out, accepts}
use Rattle.writer_laid.specs.Same.{image_length, image_byte, image_word}
use Rattle.writer_laid.specs.Alone.Layout.{pairs_in_order, segment-in_file, image_holds}
use Rattle.writer_laid.specs.Alone.Pairs.{area_inside}
use Rattle.writer_laid.specs.Alone.Strings.{areas_are_named}
use Rattle.writer_laid.specs.Alone.Agree.{start_agree, count_agree, entry_agree, entry-word, entry-first-word, entry_byte, After, table-after}

module _ (d : List ℕ) where
  -- the description's bytes and the image's
  abbrev F : ℕ → ℕ
  F = file_of d

  abbrev G : ℕ → ℕ
  G = file_of (image_of d)

  pub record ReadSame : Type 0 where
    -- the module's name
    pub same_name : module_name G ≡ module_name F
    -- the tables and their entries' places
    pub same_start : (n : ℕ) → n < length tables → start G (table_number n) ≡ start F (table_number n)
    pub same_count : (n : ℕ) → n < length tables → count G (table_number n) ≡ count F (table_number n)
    pub same-entry : (n : ℕ) → n < length tables → (i : ℕ) → entry G (table_number n) i ≡ entry F (table_number n) i
    -- the segments, the bytes of those that have some, and the tag of the handler
    pub same-segment : (i : ℕ) → file_segment G i ≡ file_segment F i
    pub same-segment_byte
        : (i : ℕ) → i < count F segments → in_file (file_segment F i).kind ≡ true
        → (o : ℕ) → In (file_segment F i).offset (file_segment F i).size o → G o ≡ F o
    pub same-handler : word G on_unresolved_segment_tag ≡ word F on_unresolved_segment_tag
    -- the exports' names and tags
    pub same-export_name
        : (i : ℕ) → i < count F named_exports → name_of G (word G (entry G named_exports i)) ≡ name_of F (word F (entry F named_exports i))
    pub same_export_tag : (i : ℕ) → word G (entry G named_exports i + 4) ≡ word F (entry F named_exports i + 4)
    pub same_indexed_tag : (i : ℕ) → word G (entry G indexed_exports i) ≡ word F (entry F indexed_exports i)
    -- the imports: where each stands, what it asks for, and its batch
    pub same_import : (i : Import) → import_entry G i ≡ import_entry F i
    pub same-wanted : (i : Import) → wanted G i ≡ wanted F i
    pub same_import_name : (i : ℕ) → i < count F named_imports → name_of G (wanted G (named i)) ≡ name_of F (wanted F (named i))
    pub same-batch : (i : Import) → batch G i ≡ batch F i
    -- the module entries' names and runs
    pub same_module_entry-name
        : (j : ℕ) → j < count F module_entries → name_of G (word G (entry G module_entries j)) ≡ name_of F (word F (entry F module_entries j))
    pub same-run-start : (j : ℕ) (i : Import) → run_start G j i ≡ run_start F j i
    pub same-run-count : (j : ℕ) (i : Import) → run_count G j i ≡ run_count F j i
    -- the relocations
    pub same_external
        : (i : ℕ) → (tag G externals i ≡ tag F externals i) × (kind G externals i ≡ kind F externals i) × (end_mark G i ≡ end_mark F i)
        × (addend G externals i ≡ addend F externals i)
    pub same_internal
        : (i : ℕ) → (tag G internals i ≡ tag F internals i) × (kind G internals i ≡ kind F internals i)
        × (symbol_segment G i ≡ symbol_segment F i) × (addend G internals i ≡ addend F internals i)

-- bytes lent from address 0 on stand at their offsets
place-there : (o : ℕ) → o < 2 ^ 32 → place 0 o ≡ o
unfolding place
place-there o l = omega arith

-- the name at p of a list of bytes, lent from address 0 on, is that of each file with the same bytes from p up to a zero
lent-name
    : (w : List ℕ) (p z : ℕ) → p ≢ 0 → p ≤ z → z < length w → length w ≤ 2 ^ 32 → file_of w z ≡ 0
    → (M : ℕ → ℕ) → ((o : ℕ) → p ≤ o → o ≤ z → file_of w o ≡ M o) → (run 0 (name_at p) w).0 ≡ name_of M p
unfolding name_of file_of byte_at
lent-name w p z some low high fits zeroed M agree =
    let size = suc z - p in
    let below : (o : ℕ) → In p size o → o < length w = λ o inside. omega (arith, inside.1) in
    let there : (o : ℕ) → o < length w → place 0 o ≡ o = λ o l. place-there o (omega arith) in
    let ends : byte_at 0 w z ≡ 0 = rw (there z high) zeroed in
    rw (name_of, name_some p some)
    (mirror (In p size) 0 (length w)
    (λ o inside. let l = below o inside in (omega arith, rw (there o l) l))
    (name_from 512 p) w M refl
    (name-within 0 p size w z (low, omega arith) (omega arith) ends 512 p (omega arith, omega arith) low)
    (λ o inside. rw (there o (below o inside)) (agree o inside.0 (omega (arith, inside.1))))).0

module _ (d : List ℕ) (is_packed : packed d ≡ true) (is_named : description.named d ≡ true) (fits : image_size d ≤ 2 ^ 32) where
  -- a name's string ends in the description, so that reading it nothing wraps
  string_name : (p : ℕ) → Pointer (F d) p → name_of (G d) p ≡ name_of (F d) p
  string_name p pointer =
      let found = (areas_are_named d is_named).pointer_string p pointer in
      let string = found.3 in
      let there = string.string_there in
      let inside = area_inside (F d) (length d) (pairs_in_order d is_packed) found.0 found.1 in
      let from : header_size ≤ p = omega (arith, inside.0, string.after-start) in
      let to : found.2 < length (image_of d) = omega (arith, inside.1, string.before_end, image_holds d is_packed, image_length d) in
      let lent = lent-name (image_of d) p found.2 (λ none. absurd (omega arith)) there.ordered to (rw (image_length d) fits)
      (image_byte d found.2 (omega (arith, there.ordered)) ∙ there.zero-there) in
      sym (lent (G d) (λ o l m. refl)) ∙ lent (F d) (λ o l m. image_byte d o (omega arith))

  -- the tables' entries come after what the image has of its own
  after : (n : ℕ) → n < 12 → After (F d) (G d) (image_byte d) (table_number n)
  after = table-after (F d) (G d) (image_byte d) (length d) (pairs_in_order d is_packed)

  import_after : (i : Import) → After (F d) (G d) (image_byte d) (import_table i)
  unfolding tables
  import_after (named i) = after 6 (omega arith)
  import_after (indexed i) = after 7 (omega arith)
  import_after (anonymous i) = after 8 (omega arith)

  -- a word of a module entry
  run-word : (j r : ℕ) → word (G d) (entry (G d) module_entries j + r) ≡ word (F d) (entry (F d) module_entries j + r)
  unfolding tables
  run-word j r = entry-word (F d) (G d) (image_byte d) module_entries (after 4 (omega arith)) j r

  run-start : (j : ℕ) (i : Import) → run_start (G d) j i ≡ run_start (F d) j i
  unfolding run_start
  run-start j (named i) = refl
  run-start j (indexed i) = run-word j 4
  run-start j (anonymous i) = run-word j 12

  run-count : (j : ℕ) (i : Import) → run_count (G d) j i ≡ run_count (F d) j i
  unfolding run_count
  run-count j (named i) = refl
  run-count j (indexed i) = run-word j 8
  run-count j (anonymous i) = run-word j 16

  read : ReadSame d
  unfolding tables module_name file_segment import_entry wanted batch tag kind end_mark symbol_segment addend
  read =
      let first = entry-first-word (F d) (G d) (image_byte d) in
      let later = entry-word (F d) (G d) (image_byte d) in
      let byte = entry_byte (F d) (G d) (image_byte d) in
      let exports = after 1 (omega arith) in
      record {
        same_name = rw (image_word d module_name_offset (omega arith)) (string_name _ of_module);
        same_start = λ n l. start_agree (F d) (G d) (image_byte d) (table_number n) (after n l).0;
        same_count = λ n l. count_agree (F d) (G d) (image_byte d) (table_number n) (after n l).0;
        same-entry = λ n l. entry_agree (F d) (G d) (image_byte d) (table_number n) (after n l).0;
        same-segment = λ i. let table = after 0 (omega arith) in rw (first segments table i, later segments table i 4, later segments table i 8);
        same-segment_byte = λ i l bytes o inside. image_byte d o (omega (arith, inside.0, segment-in_file d is_packed i l bytes));
        same-handler = image_word d on_unresolved_segment_tag (omega arith);
        same-export_name = λ i l. rw (first named_exports exports i) (string_name _ (of_export i l));
        same_export_tag = λ i. later named_exports exports i 4;
        same_indexed_tag = λ i. first indexed_exports (after 2 (omega arith)) i;
        same_import = λ i. entry_agree (F d) (G d) (image_byte d) (import_table i) (import_after i).0 (import_number i);
        same-wanted = λ i. first (import_table i) (import_after i) (import_number i);
        same_import_name = λ i l. rw (first named_imports (after 6 (omega arith)) i) (string_name _ (of_import i l));
        same-batch = λ i. later (import_table i) (import_after i) (import_number i) 4;
        same_module_entry-name = λ j l. rw (first module_entries (after 4 (omega arith)) j) (string_name _ (of_entry j l));
        same-run-start = run-start;
        same-run-count = run-count;
        same_external = λ i. let table = after 5 (omega arith) in
            (first externals table i, byte externals table i 4, byte externals table i 5, later externals table i 8);
        same_internal = λ i. let table = after 10 (omega arith) in
            (first internals table i, byte internals table i 4, byte internals table i 5, later internals table i 8);
      }

pub read_same : (d : List ℕ) → accepts d ≡ true → ReadSame d
unfolding accepts laid_out place_exists
read_same d h =
    let room = room_of (F d) (image_size d) in
    let outer = both (packed d) (description.named d && laid_out (F d) word_kinds (image_size d)) h in
    let inner = both (description.named d) (laid_out (F d) word_kinds (image_size d)) outer.1 in
    let has_place = (both (place_exists room) _ inner.1).0 in
    read d outer.0 inner.0 (omega (arith, leb-true (room.size + (room.data_size + room.bss_size) + 2) (2 ^ 32) has_place))
