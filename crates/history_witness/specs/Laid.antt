-- Whether an image is well laid, as a test that antt computes, and that an image which passes is. The test asks for a little more.
use Prim.Native.Nat.{ℕ, zero, suc, ◌+◌, ◌-◌, ◌*◌, ◌/◌, ◌≤◌, ◌<◌}
use Rattle.std.specs.Prelude.{if◌then◌else◌, ◌≡◌, ◌≢◌, ◌⊎◌, List, [], ◌∷◌, Bool, not, ◌&&◌, ◌||◌, length, ltb, leb, Option, Some, None}
use Rattle.std.proofs.Math.Path.{refl}
use Rattle.std.proofs.Math.Logic.{inl, inr}
use Rattle.std.proofs.Math.Bool.{true}
use native.Mathlib.Omega.{arith}
use Rattle.std.proofs.Math.Decide.{dec_lt}
use Rattle.std.proofs.Math.Dec.{eqb}
use borrow.Author.Tests.{ltb-true, leb-true, eqb-true, eqb-false, not-true}
use Rattle.window.specs.Within.{In}
use Rattle.window.specs.Mirror.{word}
use Rattle.window.specs.Tests.{both}
use Rattle.layout.specs.Header.{header_size, next_cro, previous_cro, module_name_offset}
use Rattle.layout.specs.Format.{tag_segment, tag_offset}
use Rattle.linker_spec.specs.Relocation.{batch_limit, write_place}
use Rattle.history.specs.Image.{Table, tables, named_exports, module_entries, externals, named_imports, indexed_imports, anonymous_imports, internals, start, count, entry, file_segment, tag, end_mark}
use Rattle.history.specs.LoadedModule.{LoadCall, initialized, loaded, Image, base_of, size_of, old_place, address, handler, Area, LentArea}
use Rattle.history.specs.Imports.{Import, named, indexed, anonymous, import_table, IsImport, batch, run_start, run_count, BatchOf}
use Rattle.history.specs.WellLaid.{Part, header, table, string, table_number, Pointer, of_module, of_export, of_import, of_entry, InPart, LaidAlone, Relocated, external, internal, WordAt, NoList, WellLaid}
use Rattle.history_witness.specs.Tests.{all, each, meets, nth, either, apart, never_both, alike, alike_true}

-- parts, imports and relocated words by their numbers

abbrev part-kind : Part → ℕ
part-kind header = 0
part-kind (table n) = 1
part-kind (string p) = 2

abbrev part-number : Part → ℕ
part-number header = 0
part-number (table n) = n
part-number (string p) = p

abbrev part-back : ℕ → ℕ → Part
part-back zero n = header
part-back (suc zero) n = table n
part-back (suc (suc k)) n = string n

part_again : (r : Part) → part-back (part-kind r) (part-number r) ≡ r
part_again header = refl
part_again (table n) = refl
part_again (string p) = refl

abbrev same-part : Part → Part → Bool
same-part = alike part-kind part-number

abbrev import_kind : Import → ℕ
import_kind (named i) = 0
import_kind (indexed i) = 1
import_kind (anonymous i) = 2

abbrev import_number_lem : Import → ℕ
import_number_lem (named i) = i
import_number_lem (indexed i) = i
import_number_lem (anonymous i) = i

abbrev import_back : ℕ → ℕ → Import
import_back zero n = named n
import_back (suc zero) n = indexed n
import_back (suc (suc k)) n = anonymous n

import_again : (i : Import) → import_back (import_kind i) (import_number_lem i) ≡ i
import_again (named i) = refl
import_again (indexed i) = refl
import_again (anonymous i) = refl

abbrev same_import : Import → Import → Bool
same_import = alike import_kind import_number_lem

abbrev word-kind : Relocated → ℕ
word-kind (external i) = 0
word-kind (internal i) = 1

abbrev word_number : Relocated → ℕ
word_number (external i) = i
word_number (internal i) = i

abbrev word_back : ℕ → ℕ → Relocated
word_back zero n = external n
word_back (suc k) n = internal n

word_again : (r : Relocated) → word_back (word-kind r) (word_number r) ≡ r
word_again (external i) = refl
word_again (internal i) = refl

abbrev same_word : Relocated → Relocated → Bool
same_word = alike word-kind word_number

not_eqb : (a b : ℕ) → not (eqb a b) ≡ true → a ≢ b
not_eqb a b h = eqb-false a b (not-true (eqb a b) h)

module _ (F : ℕ → ℕ) where
  -- the first zero from p on, among 8 bytes
  unfoldable pub stop : ℕ → ℕ → ℕ
  stop zero p = p
  stop (suc n) p = if eqb (F p) 0 then p else stop n (p + 1)

  unfoldable pub last : ℕ → ℕ
  last p = stop 8 p

  -- the pointers of names
  unfoldable pub pointers : (ℕ → Bool) → List Bool
  pointers f =
      f (word F module_name_offset)
      ∷ all (count F named_exports) (λ i. f (word F (entry F named_exports i)))
      ∷ all (count F named_imports) (λ i. f (word F (entry F named_imports i)))
      ∷ all (count F module_entries) (λ i. f (word F (entry F module_entries i)))
      ∷ []

  each_pointer : (f : ℕ → Bool) → meets (pointers f) ≡ true → {p : ℕ} → Pointer F p → f p ≡ true
  unfolding pointers
  each_pointer f h of_module = nth (pointers f) h 0
  each_pointer f h (of_export i l) = each _ (λ i. f (word F (entry F named_exports i))) (nth (pointers f) h 1) i l
  each_pointer f h (of_import i l) = each _ (λ i. f (word F (entry F named_imports i))) (nth (pointers f) h 2) i l
  each_pointer f h (of_entry i l) = each _ (λ i. f (word F (entry F module_entries i))) (nth (pointers f) h 3) i l

  -- the parts, and the offsets of each
  unfoldable pub parts : (Part → Bool) → List Bool
  parts f = f header ∷ all 12 (λ n. f (table n)) ∷ meets (pointers (λ p. eqb p 0 || f (string p))) ∷ []

  unfoldable pub low : Part → ℕ
  low header = 0
  low (table n) = start F (table_number n)
  low (string p) = p

  unfoldable pub high : Part → ℕ
  high header = header_size
  high (table n) = start F (table_number n) + count F (table_number n) * (table_number n).width
  high (string p) = suc (last p)

  some_string : (f : ℕ → Bool) (p : ℕ) → p ≢ 0 → (eqb p 0 || f p) ≡ true → f p ≡ true
  some_string f p n h = go (either (eqb p 0) (f p) h)
    where
      go : (eqb p 0 ≡ true) ⊎ (f p ≡ true) → f p ≡ true
      go (inl e) = absurd (n (eqb-true p 0 e))
      go (inr e) = e

  each_part : (f : Part → Bool) → meets (parts f) ≡ true → (r : Part) (o : ℕ) → InPart F r o → f r ≡ true
  unfolding parts InPart tables
  each_part f h header o i = nth (parts f) h 0
  each_part f h (table n) o i = each 12 (λ n. f (table n)) (nth (parts f) h 1) n i.0
  each_part f h (string p) o i =
      some_string (λ p. f (string p)) p i.1 (each_pointer (λ p. eqb p 0 || f (string p)) (nth (parts f) h 2) i.0)

  module _ (size : ℕ) where
    unfoldable pub table-tests : ℕ → List Bool
    table-tests n =
        not (eqb (start F (table_number n)) 0)
        ∷ leb (entry F (table_number n) (count F (table_number n))) size
        ∷ []

    unfoldable pub string_tests : ℕ → List Bool
    string_tests p = eqb (F (last p)) 0 ∷ leb p (last p) ∷ ltb (last p) size ∷ []

    -- a run of so many entries from s on, of a table of 8-byte entries
    unfoldable pub first_of : ℕ → Table → ℕ
    first_of s t = (s - start F t) / 8

    unfoldable pub run-tests : ℕ → ℕ → Table → List Bool
    run-tests s n t = eqb s (entry F t (first_of s t)) ∷ leb (first_of s t + n) (count F t) ∷ []

    unfoldable pub run_test : ℕ → ℕ → Table → Bool
    run_test s n t = eqb n 0 || meets (run-tests s n t)

    unfoldable pub runs_tests : ℕ → List Bool
    runs_tests j =
        run_test (run_start F j (indexed 0)) (run_count F j (indexed 0)) indexed_imports
        ∷ run_test (run_start F j (anonymous 0)) (run_count F j (anonymous 0)) anonymous_imports
        ∷ []

    -- a batch's first entry, and its last: the first end mark among 8 entries
    unfoldable pub first_entry : Import → ℕ
    first_entry i = (batch F i - start F externals) / 12

    unfoldable pub marked : ℕ → ℕ → ℕ
    marked zero e = e
    marked (suc n) e = if eqb (end_mark F e) 0 then marked n (e + 1) else e

    unfoldable pub last_entry : Import → ℕ
    last_entry i = marked 8 (first_entry i)

    unfoldable pub begins : ℕ → Bool
    begins zero = true
    begins (suc d) = not (eqb (end_mark F d) 0)

    unfoldable pub batch-tests : Import → List Bool
    batch-tests i =
        not (eqb (batch F i) 0)
        ∷ eqb (batch F i) (entry F externals (first_entry i))
        ∷ begins (first_entry i)
        ∷ leb (first_entry i) (last_entry i)
        ∷ ltb (last_entry i) (count F externals)
        ∷ all (last_entry i) (λ j. ltb j (first_entry i) || eqb (end_mark F j) 0)
        ∷ not (eqb (end_mark F (last_entry i)) 0)
        ∷ ltb (last_entry i) (first_entry i + batch_limit)
        ∷ []

    unfoldable pub imports : (Import → Bool) → List Bool
    imports f =
        all (count F named_imports) (λ i. f (named i))
        ∷ all (count F indexed_imports) (λ i. f (indexed i))
        ∷ all (count F anonymous_imports) (λ i. f (anonymous i))
        ∷ []

    each_import : (f : Import → Bool) → meets (imports f) ≡ true → (i : Import) → IsImport F i → f i ≡ true
    unfolding imports
    each_import f h (named i) l = each _ (λ i. f (named i)) (nth (imports f) h 0) i l
    each_import f h (indexed i) l = each _ (λ i. f (indexed i)) (nth (imports f) h 1) i l
    each_import f h (anonymous i) l = each _ (λ i. f (anonymous i)) (nth (imports f) h 2) i l

    abbrev off : Part → Part → Bool
    off r s = same-part r s || apart (low r) (high r) (low s) (high s)

    abbrev own : Import → Import → Bool
    own i k = same_import i k || not (eqb (batch F i) (batch F k))

    -- what depends on the image alone; it has one module entry or none
    unfoldable pub alone-tests : List Bool
    alone-tests =
        leb header_size size
        ∷ all 12 (λ n. eqb (count F (table_number n)) 0 || meets (table-tests n))
        ∷ meets (pointers (λ p. eqb p 0 || meets (string_tests p)))
        ∷ meets (parts (λ r. meets (parts (λ s. off r s))))
        ∷ all (count F module_entries) (λ j. meets (runs_tests j))
        ∷ leb (count F module_entries) 1
        ∷ meets (imports (λ i. meets (batch-tests i)))
        ∷ meets (imports (λ i. meets (imports (λ k. own i k))))
        ∷ []

    module _ (passed : meets alone-tests ≡ true) where
      a-table
          : (n : ℕ) → n < length tables → (count F (table_number n) ≡ 0)
          ⊎ ((start F (table_number n) ≢ 0) × (entry F (table_number n) (count F (table_number n)) ≤ size))
      unfolding alone-tests table-tests tables
      a-table n l =
          go (either (eqb (count F (table_number n)) 0) (meets (table-tests n)) (each 12 _ (nth alone-tests passed 1) n l))
        where
          go : (eqb (count F (table_number n)) 0 ≡ true) ⊎ (meets (table-tests n) ≡ true)
              → (count F (table_number n) ≡ 0)
              ⊎ ((start F (table_number n) ≢ 0) × (entry F (table_number n) (count F (table_number n)) ≤ size))
          go (inl e) = inl (eqb-true _ _ e)
          go (inr h) = inr (not_eqb _ _ (nth (table-tests n) h 0), leb-true _ _ (nth (table-tests n) h 1))

      a_string : (p : ℕ) → Pointer F p → p ≢ 0 → (F (last p) ≡ 0) × (p ≤ last p) × (last p < size)
      unfolding alone-tests string_tests
      a_string p i n =
          let h : meets (string_tests p) ≡ true =
          some_string (λ p. meets (string_tests p)) p n (each_pointer (λ p. eqb p 0 || meets (string_tests p)) (nth alone-tests passed 2) i) in (
            eqb-true _ _ (nth (string_tests p) h 0),
            leb-true _ _ (nth (string_tests p) h 1),
            ltb-true _ _ (nth (string_tests p) h 2),
          )

      -- a part keeps to its offsets
      pub within : (r : Part) (o : ℕ) → InPart F r o → (low r ≤ o) × (o < high r)
      unfolding InPart low high
      within header o i = (omega arith, i)
      within (table n) o i = (i.1.0, i.1.1)
      within (string p) o i =
          let s = a_string p i.0 i.1 in
          elim (dec_lt (last p) o) [
            | yes l ↦ absurd (i.2.1 (last p) s.1 l s.0)
            | no m ↦ (i.2.0, omega arith)
          ]

      parts-apart : (r s : Part) → r ≢ s → (o : ℕ) → InPart F r o → InPart F s o → ⊥
      unfolding alone-tests
      parts-apart r s n o i j =
          let f : meets (parts (λ s. off r s)) ≡ true =
          each_part (λ r. meets (parts (λ s. off r s))) (nth alone-tests passed 3) r o i in
          go (either (same-part r s) _ (each_part (λ s. off r s) f s o j))
        where
          go : (same-part r s ≡ true) ⊎ (apart (low r) (high r) (low s) (high s) ≡ true) → ⊥
          go (inl e) = n (alike_true part-kind part-number part-back part_again r s e)
          go (inr e) =
              never_both (low r) (high r) (low s) (high s) o e (within r o i).0 (within r o i).1 (within s o j).0 (within s o j).1

      a-run
          : (s n : ℕ) (t : Table) → run_test s n t ≡ true
          → (n ≡ 0) ⊎ ((k : ℕ) × (s ≡ entry F t k) × (k + n ≤ count F t))
      unfolding run_test run-tests
      a-run s n t h = go (either (eqb n 0) (meets (run-tests s n t)) h)
        where
          go : (eqb n 0 ≡ true) ⊎ (meets (run-tests s n t) ≡ true) → (n ≡ 0) ⊎ ((k : ℕ) × (s ≡ entry F t k) × (k + n ≤ count F t))
          go (inl e) = inl (eqb-true _ _ e)
          go (inr g) = inr (first_of s t, eqb-true _ _ (nth (run-tests s n t) g 0), leb-true _ _ (nth (run-tests s n t) g 1))

      runs
          : (j : ℕ) → j < count F module_entries → (i : Import) → (run_count F j i ≡ 0)
          ⊎ ((k : ℕ) × (run_start F j i ≡ entry F (import_table i) k) × (k + run_count F j i ≤ count F (import_table i)))
      unfolding alone-tests runs_tests run_start run_count
      runs j l (named i) = inl refl
      runs j l (indexed i) = a-run _ _ indexed_imports (nth (runs_tests j) (each _ _ (nth alone-tests passed 4) j l) 0)
      runs j l (anonymous i) = a-run _ _ anonymous_imports (nth (runs_tests j) (each _ _ (nth alone-tests passed 4) j l) 1)

      one_entry : (j k : ℕ) → j < count F module_entries → k < count F module_entries → j ≡ k
      unfolding alone-tests
      one_entry j k l m = omega (arith, leb-true (count F module_entries) 1 (nth alone-tests passed 5))

      begins-at : (e : ℕ) → begins e ≡ true → (e ≡ 0) ⊎ ((d : ℕ) × (e ≡ suc d) × (end_mark F d ≢ 0))
      unfolding begins
      begins-at zero h = inl refl
      begins-at (suc d) h = inr (d, refl, not_eqb _ _ h)

      pub a-batch : (i : Import) → meets (batch-tests i) ≡ true → BatchOf F i (first_entry i) (last_entry i)
      unfolding batch-tests
      a-batch i h =
          record {
            nonzero = not_eqb _ _ (nth (batch-tests i) h 0);
            first = eqb-true _ _ (nth (batch-tests i) h 1);
            run =
                record {
                  begins = begins-at (first_entry i) (nth (batch-tests i) h 2);
                  ordered = leb-true _ _ (nth (batch-tests i) h 3);
                  inside = ltb-true _ _ (nth (batch-tests i) h 4);
                  goes_on = λ j l m. go j l (either _ _ (each (last_entry i) _ (nth (batch-tests i) h 5) j m));
                  ends = not_eqb _ _ (nth (batch-tests i) h 6);
                };
            short = ltb-true _ _ (nth (batch-tests i) h 7);
          }
        where
          go : (j : ℕ) → first_entry i ≤ j → (ltb j (first_entry i) ≡ true) ⊎ (eqb (end_mark F j) 0 ≡ true) → end_mark F j ≡ 0
          go j l (inl e) = absurd (omega (arith, ltb-true))
          go j l (inr e) = eqb-true _ _ e

      own-batch : (i k : Import) → IsImport F i → IsImport F k → batch F i ≡ batch F k → i ≡ k
      unfolding alone-tests
      own-batch i k l m e =
          let f : meets (imports (λ k. own i k)) ≡ true =
          each_import (λ i. meets (imports (λ k. own i k))) (nth alone-tests passed 7) i l in
          go (either (same_import i k) _ (each_import (λ k. own i k) f k m))
        where
          go : (same_import i k ≡ true) ⊎ (not (eqb (batch F i) (batch F k)) ≡ true) → i ≡ k
          go (inl h) = alike_true import_kind import_number_lem import_back import_again i k h
          go (inr h) = absurd (not_eqb _ _ h e)

      pub laid-alone : LaidAlone F size
      unfolding alone-tests
      laid-alone =
          record {
            header-inside = leb-true _ _ (nth alone-tests passed 0);
            tables-inside = a-table;
            strings_inside = λ p i n. let s = a_string p i n in (last p, s.1, s.2, s.0);
            parts-apart = parts-apart;
            runs = runs;
            one-run = λ i h j k l m g e. one_entry j k l m;
            batches = λ i l. (first_entry i, last_entry i, a-batch i (each_import _ (nth alone-tests passed 6) i l));
            own-batch = own-batch;
          }

module _ (a : Image) where
  abbrev F : ℕ → ℕ
  F = a.file

  unfoldable pub usable : (ℕ → Bool) → Option ℕ → Bool
  usable f (Some p) = f p
  usable f None = true

  -- where entry i of the internal table writes
  unfoldable pub target : ℕ → ℕ → ℕ
  target i q =
      write_place (file_segment F (tag_segment (tag F internals i))).kind (old_place a) (tag_offset (tag F internals i)) q

  -- the words that entries of any kind with a usable tag may write
  unfoldable pub words : (Relocated → ℕ → Bool) → List Bool
  words f =
      all (count F externals) (λ i. usable (f (external i)) (address a (tag F externals i)))
      ∷ all (count F internals) (λ i. usable (λ q. f (internal i) (target i q)) (address a (tag F internals i)))
      ∷ []

  each_word : (f : Relocated → ℕ → Bool) → meets (words f) ≡ true → (r : Relocated) (p : ℕ) → WordAt a r p → f r p ≡ true
  unfolding words WordAt usable target
  each_word f h (external i) p w =
      rw w.2 at (each _ (λ i. usable (f (external i)) (address a (tag F externals i))) (nth (words f) h 0) i w.0)
  each_word f h (internal i) p w =
      rw w.5 (rw w.4 at
      (each _ (λ i. usable (λ q. f (internal i) (target i q)) (address a (tag F internals i))) (nth (words f) h 1) i w.0))

  -- the four bytes from p on lie among n from b on; in an area of the module
  unfoldable pub among : (b n p : ℕ) → Bool
  among b n p = leb b p && leb (p + 4) (b + n)

  unfoldable pub in_area : LoadCall → ℕ → Bool
  in_area (initialized base size) p = among base size p
  in_area (loaded l auto level) p =
      among l.base l.size p || (among l.data_segment l.data_segment_size p || among l.bss_segment l.bss_segment_size p)

  among_in : (b n p q : ℕ) → among b n p ≡ true → In p 4 q → In b n q
  unfolding among
  among_in b n p q h i =
      let e = both (leb b p) (leb (p + 4) (b + n)) h in
      (omega (arith, leb-true b p e.0), omega (arith, leb-true (p + 4) (b + n) e.1))

  unfoldable pub no_list : LoadCall → List Bool
  no_list (initialized base size) = eqb (word F next_cro) 0 ∷ eqb (word F previous_cro) 0 ∷ []
  no_list (loaded l auto level) = []

  abbrev clear : Relocated → ℕ → Relocated → ℕ → Bool
  clear r p s q = same_word r s || apart p (p + 4) q (q + 4)

  abbrev aside : ℕ → Part → Bool
  aside p s = apart p (p + 4) (base_of a.load_call + low F s) (base_of a.load_call + high F s)

  -- what depends on its place; no table and no string is passed over
  unfoldable pub place-tests : List Bool
  place-tests =
      meets (words (λ r p. in_area a.load_call p))
      ∷ meets (words (λ r p. meets (words (λ s q. clear r p s q))))
      ∷ meets (words (λ r p. meets (parts F (λ s. aside p s))))
      ∷ not (eqb (handler a) 0)
      ∷ meets (no_list a.load_call)
      ∷ []

  unfoldable pub laid-tests : List Bool
  laid-tests = meets (alone-tests F (size_of a.load_call)) ∷ meets place-tests ∷ []

  module _ (passed : meets laid-tests ≡ true) where
    first : meets (alone-tests F (size_of a.load_call)) ≡ true
    unfolding laid-tests
    first = nth laid-tests passed 0

    second : meets place-tests ≡ true
    unfolding laid-tests
    second = nth laid-tests passed 1

    inside : (c : LoadCall) (p q : ℕ) → in_area c p ≡ true → In p 4 q → In (base_of c) (size_of c) q ⊎ LentArea a c q
    unfolding in_area LentArea
    inside (initialized base size) p q h i = inl (among_in base size p q h i)
    inside (loaded l auto level) p q h i = go (either (among l.base l.size p) _ h)
      where
        lent : (among l.data_segment l.data_segment_size p ≡ true) ⊎ (among l.bss_segment l.bss_segment_size p ≡ true)
            → LentArea a (loaded l auto level) q
        lent (inl e) = inl (among_in l.data_segment l.data_segment_size p q e i)
        lent (inr e) = inr (among_in l.bss_segment l.bss_segment_size p q e i)

        go : (among l.base l.size p ≡ true)
            ⊎ ((among l.data_segment l.data_segment_size p || among l.bss_segment l.bss_segment_size p) ≡ true)
            → In l.base l.size q ⊎ LentArea a (loaded l auto level) q
        go (inl e) = inl (among_in l.base l.size p q e i)
        go (inr e) = inr (lent (either (among l.data_segment l.data_segment_size p) _ e))

    words-apart : (r s : Relocated) → r ≢ s → (p q : ℕ) → WordAt a r p → WordAt a s q → (x : ℕ) → In p 4 x → In q 4 x → ⊥
    unfolding place-tests
    words-apart r s n p q v w x i j =
        let f : meets (words (λ s q. clear r p s q)) ≡ true =
        each_word (λ r p. meets (words (λ s q. clear r p s q))) (nth place-tests second 1) r p v in
        go (either (same_word r s) _ (each_word (λ s q. clear r p s q) f s q w))
      where
        go : (same_word r s ≡ true) ⊎ (apart p (p + 4) q (q + 4) ≡ true) → ⊥
        go (inl e) = n (alike_true word-kind word_number word_back word_again r s e)
        go (inr e) = never_both p (p + 4) q (q + 4) x e i.0 i.1 j.0 j.1

    words-off
        : (r : Relocated) (p : ℕ) → WordAt a r p → (s : Part) (o : ℕ) → InPart F s o → In p 4 (base_of a.load_call + o) → ⊥
    unfolding place-tests
    words-off r p v s o i j =
        let f : meets (parts F (λ s. aside p s)) ≡ true =
        each_word (λ r p. meets (parts F (λ s. aside p s))) (nth place-tests second 2) r p v in
        let g = within F (size_of a.load_call) first s o i in
        never_both p (p + 4) _ _ (base_of a.load_call + o) (each_part F (λ s. aside p s) f s o i) j.0 j.1 (omega arith) (omega arith)

    listed : (c : LoadCall) → meets (no_list c) ≡ true → NoList a c
    unfolding no_list NoList
    listed (initialized base size) h =
        let l = no_list (initialized base size) in (eqb-true _ _ (nth l h 0), eqb-true _ _ (nth l h 1))
    listed (loaded l auto level) h = tt

    pub laid : WellLaid a
    unfolding place-tests Area
    laid =
        record {
          alone = laid-alone F (size_of a.load_call) first;
          in_place_lem =
              record {
                words_inside_lem = λ r p w q i. inside a.load_call p q (each_word _ (nth place-tests second 0) r p w) i;
                words-apart = words-apart;
                words-off = λ r p w s o i t j. words-off r p w s o i j;
                handler-there = not_eqb _ _ (nth place-tests second 3);
                no_list = listed a.load_call (nth place-tests second 4);
              };
        }
