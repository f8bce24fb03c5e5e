-- What "named" says: each string area is a row of strings, each of at most 512 bytes and its zero, one for each pointer.
use Prim.Native.Nat.{ℕ, zero, suc, ◌+◌, ◌-◌, ◌≤◌, ◌<◌}
use Rattle.std.specs.Prelude.{◌≡◌, ◌≢◌, Some, true, ◌&&◌, eqb}
use Rattle.std.proofs.Math.Path.{refl}
use Rattle.std.proofs.Common.{ap}
use Rattle.std.proofs.Math.Logic.{inl, inr}
use mathlib.Core.List.Memᴰ
use mathlib.Core.List.{List, [], ◌∷◌, ◌++◌, Memᴰ}
use native.Mathlib.Omega.{arith}
use Rattle.std.proofs.Math.Nat.{mul-one}
use Rattle.std.proofs.Math.Decide.{ℕ_discrete, dec_le}
use Rattle.std.proofs.Math.Dec.{ltb}
use borrow.Author.Tests.{eqb-true, eq-eqb, ne_eqb, ltb-true}
use Rattle.window.specs.Tests.{both}
use Rattle.window.specs.Mirror.{word}
use Rattle.layout.specs.Header.{module_name_offset, module_name_size, export_strings_offset, export_strings_size}
use Rattle.layout.specs.Tables.{table_entry_sizes}
use Rattle.history.specs.Image.{Table, named_exports, module_entries, named_imports, count, entry}
use Rattle.history.specs.WellLaid.{Pointer, of_module, of_export, of_import, of_entry}
use Rattle.writer_spec.specs.Description.{file_of, pair_block, ends_at, name_room, nonzeros, string_after, strings_from, pointers, pointers_of, names_packed, named}
use Rattle.writer_laid.specs.Alone.Layout.{then_ends, ends_reached, guarded}
use Rattle.writer_laid.specs.Alone.Pairs.{StringArea, name_area, export_area, import_area, InPair}

module _ (F : ℕ → ℕ) where
  -- the bytes that `nonzeros` counts are not 0, and the next is
  nonzeros_before : (n p q : ℕ) → p ≤ q → q < p + nonzeros F n p → F q ≢ 0
  unfolding nonzeros
  nonzeros_before zero p q l m = absurd (omega arith)
  nonzeros_before (suc n) p q l m =
      elim (ℕ_discrete (F p) 0) [
        | yes is_zero ↦ absurd (omega (arith, rw (eq-eqb (F p) 0 is_zero) at m))
        | no nonzero ↦ elim (ℕ_discrete q p) [
          | yes same ↦ rw same nonzero
          | no other ↦ nonzeros_before n (suc p) q (omega arith) (omega (arith, rw (ne_eqb (F p) 0 nonzero) at m))
        ]
      ]

  nonzeros-stop : (n p : ℕ) → nonzeros F n p < n → F (p + nonzeros F n p) ≡ 0
  unfolding nonzeros
  nonzeros-stop zero p m = absurd (omega arith)
  nonzeros-stop (suc n) p m =
      elim (ℕ_discrete (F p) 0) [
        | yes is_zero ↦ let same : p + 0 ≡ p = omega arith in rw (eq-eqb (F p) 0 is_zero, same) is_zero
        | no nonzero ↦
            let same : p + suc (nonzeros F n (suc p)) ≡ suc p + nonzeros F n (suc p) = omega arith in
            rw (ne_eqb (F p) 0 nonzero, same) (nonzeros-stop n (suc p) (omega (arith, rw (ne_eqb (F p) 0 nonzero) at m)))
      ]

  -- the string at p with the zero that ends it
  pub record StringAt (p ending : ℕ) : Type 0 where
    pub ordered : p ≤ ending
    pub short : ending ≤ p + 512
    pub zero-there : F ending ≡ 0
    pub no_zero_before : (q : ℕ) → p ≤ q → q < ending → F q ≢ 0

  string_after_lem : (position p next : ℕ) → string_after F position p ≡ Some next → (p ≡ position) × (ending : ℕ) × (next ≡ suc ending) × StringAt p ending
  unfolding string_after
  string_after_lem position p next h =
      let guard = guarded (eqb p position && ltb (nonzeros F name_room p) name_room) (position + (nonzeros F name_room p + 1)) next h in
      let tests = both (eqb p position) (ltb (nonzeros F name_room p) name_room) guard.0 in
      let same = eqb-true p position tests.0 in
      let enough = ltb-true (nonzeros F name_room p) name_room tests.1 in (
        same,
        p + nonzeros F name_room p,
        omega (arith, guard.1),
        record {
          ordered = omega arith;
          short = omega arith;
          zero-there = nonzeros-stop name_room p enough;
          no_zero_before = nonzeros_before name_room p;
        },
      )

  -- strings one after another from a position on, the last zero right before the end
  unfoldable Successive : ℕ → List ℕ → ℕ → Type 0
  Successive position [] end = position ≡ end
  Successive position (p ∷ rest) end = (p ≡ position) × (ending : ℕ) × StringAt p ending × Successive (suc ending) rest end

  strings_successive : (position : ℕ) (ps : List ℕ) (end : ℕ) → ends_at (strings_from F position ps) end ≡ true → Successive position ps end
  unfolding strings_from Successive
  strings_successive position [] end h = eqb-true position end h
  strings_successive position (p ∷ rest) end h =
      let reached = then_ends (string_after F position p) (λ next. strings_from F next rest) end h in
      let string = string_after_lem position p reached.0 reached.1 in
      (string.0, string.1, string.3, strings_successive (suc string.1) rest end (rw string.2 at reached.2))

  successive_ends : (position : ℕ) (ps : List ℕ) (end : ℕ) → Successive position ps end → position ≤ end
  unfolding Successive
  successive_ends position [] end h = omega arith
  successive_ends position (p ∷ rest) end h = omega (arith, h.0, h.2.ordered, successive_ends (suc h.1) rest end h.3)

  -- the string at p in an area: at its start or right after a zero, and ending in it
  pub record StringIn (from to p ending : ℕ) : Type 0 where
    pub after-start : from ≤ p
    pub after-zero : from < p → F (p - 1) ≡ 0
    pub string_there : StringAt p ending
    pub before_end : ending < to

  -- a position of an area where a string may start
  abbrev Starts : (from position : ℕ) → Type 0
  Starts from position = (from ≤ position) × (from < position → F (position - 1) ≡ 0)

  -- a string that others follow, and where the next one starts
  first_string
      : (from position p ending : ℕ) (rest : List ℕ) (to : ℕ) → Starts from position → p ≡ position → StringAt p ending → Successive (suc ending) rest to
      → StringIn from to p ending × Starts from (suc ending)
  first_string from position p ending rest to starts at string h =
      let room = successive_ends (suc ending) rest to h in
      let same : suc ending - 1 ≡ ending = omega arith in (
        record {
          after-start = rw at starts.0;
          after-zero = rw at starts.1;
          string_there = string;
          before_end = omega arith;
        },
        (omega (arith, string.ordered, starts.0), λ _. rw same string.zero-there),
      )

  -- each of successive strings is one of their area
  string_among
      : (from position : ℕ) (ps : List ℕ) (to : ℕ) → Starts from position → Successive position ps to
      → (p : ℕ) → Memᴰ p ps → (ending : ℕ) × StringIn from to p ending
  unfolding Successive
  string_among from position [] to starts h p m = absurd (Memᴰ.not-nil m)
  string_among from position (q ∷ rest) to starts h p m =
      let first = first_string from position q h.1 rest to starts h.0 h.2 h.3 in
      elim (Memᴰ.cases_cons m) [
        | inl same ↦ rw same (h.1, first.0)
        | inr later ↦ string_among from (suc h.1) rest to first.1 h.3 p later
      ]

  -- each offset of the area lies in one of its strings
  string_covers
      : (from position : ℕ) (ps : List ℕ) (to : ℕ) → Starts from position → Successive position ps to → (o : ℕ) → position ≤ o → o < to
      → (p : ℕ) × Memᴰ p ps × (ending : ℕ) × StringIn from to p ending × (p ≤ o) × (o ≤ ending)
  unfolding Successive
  string_covers from position [] to starts h o low high = absurd (omega arith)
  string_covers from position (p ∷ rest) to starts h o low high =
      let first = first_string from position p h.1 rest to starts h.0 h.2 h.3 in
      elim (dec_le o h.1) [
        | yes within ↦ (p, Memᴰ.head refl, h.1, first.0, omega (arith, h.0), within)
        | no past ↦
            let found = string_covers from (suc h.1) rest to first.1 h.3 o (omega arith) high in
            (found.0, Memᴰ.tail found.1, found.2, found.3, found.4, found.5)
      ]

  -- the pointers of a table
  pointer_listed : (t : Table) (n i j : ℕ) → i ≤ j → j < i + n → Memᴰ (word F (entry F t j)) (pointers F t n i)
  unfolding pointers
  pointer_listed t zero i j l m = absurd (omega arith)
  pointer_listed t (suc n) i j l m =
      elim (ℕ_discrete j i) [
        | yes same ↦ Memᴰ.head (ap (λ k. word F (entry F t k)) same)
        | no other ↦ Memᴰ.tail (pointer_listed t n (suc i) j (omega arith) (omega arith))
      ]

  listed_pointer : (t : Table) (n i p : ℕ) → Memᴰ p (pointers F t n i) → (j : ℕ) × (j < i + n) × (p ≡ word F (entry F t j))
  unfolding pointers
  listed_pointer t zero i p m = absurd (Memᴰ.not-nil m)
  listed_pointer t (suc n) i p m =
      elim (Memᴰ.cases_cons m) [
        | inl same ↦ (i, omega arith, same)
        | inr later ↦ let found = listed_pointer t n (suc i) p later in (found.0, omega (arith, found.1), found.2)
      ]

  -- the string of a pointer in string area k
  abbrev pub StringOfArea : (k p ending : ℕ) → Type 0
  StringOfArea k p ending = StringIn (pair_block F k).offset ((pair_block F k).offset + (pair_block F k).size) p ending

  -- a pointer with its string in some area, and a string of area k that has an offset
  abbrev InSomeArea : ℕ → Type 0
  InSomeArea p = (k : ℕ) × StringArea k × (ending : ℕ) × StringOfArea k p ending

  abbrev StringWith : (k o : ℕ) → Type 0
  StringWith k o = (p : ℕ) × Pointer F p × (ending : ℕ) × StringOfArea k p ending × (p ≤ o) × (o ≤ ending)

  -- every pointer has its string in an area, and the areas hold nothing else
  pub record AreasNamed : Type 0 where
    pub pointer_string : (p : ℕ) → Pointer F p → InSomeArea p
    pub area_string : (k o : ℕ) → StringArea k → InPair F k o → StringWith k o

  -- what the test of names says of an area and the pointers of its strings
  abbrev AreaSuccessive : (k : ℕ) → List ℕ → Type 0
  AreaSuccessive k ps = Successive (pair_block F k).offset ps ((pair_block F k).offset + (pair_block F k).size)

  starts_there : (position : ℕ) → Starts position position
  starts_there position = (omega arith, λ l. absurd (omega arith))

  listed_string : (k : ℕ) (ps : List ℕ) → StringArea k → AreaSuccessive k ps → (p : ℕ) → Memᴰ p ps → InSomeArea p
  listed_string k ps area successive p m =
      let found = string_among (pair_block F k).offset (pair_block F k).offset ps _ (starts_there (pair_block F k).offset) successive p m in
      (k, area, found.0, found.1)

  listed-covers : (k o : ℕ) (ps : List ℕ) → AreaSuccessive k ps → ((p : ℕ) → Memᴰ p ps → Pointer F p) → InPair F k o → StringWith k o
  listed-covers k o ps successive pointer inside =
      let starts = starts_there (pair_block F k).offset in
      let found = string_covers (pair_block F k).offset (pair_block F k).offset ps _ starts successive o inside.0 inside.1 in
      (found.0, pointer found.0 found.1, found.2, found.3, found.4, found.5)

  -- the pointers of the three areas
  abbrev name_pointers : List ℕ
  name_pointers = word F module_name_offset ∷ []

  abbrev import_pointers : List ℕ
  import_pointers = pointers_of F module_entries ++ pointers_of F named_imports

  record NamesSuccessive : Type 0 where
    name_successive : AreaSuccessive 0 name_pointers
    exports_successive : AreaSuccessive 4 (pointers_of F named_exports)
    imports_successive : AreaSuccessive 11 import_pointers

  names_successive : names_packed F ≡ true → NamesSuccessive
  unfolding names_packed pair_block table_entry_sizes Successive
  names_successive h =
      let name_end = word F module_name_offset + word F module_name_size in
      let name-reached = string_after F (word F module_name_offset) (word F module_name_offset) in
      let exports-reached = strings_from F (word F export_strings_offset) (pointers_of F named_exports) in
      let outer = both (ends_at name-reached name_end) _ h in
      let inner = both (ends_at exports-reached (word F export_strings_offset + word F export_strings_size)) _ outer.1 in
      let name = string_after_lem (word F module_name_offset) (word F module_name_offset) name_end (ends_reached name-reached name_end outer.0) in
      record {
        name_successive = (refl, name.1, name.3, omega (arith, name.2));
        exports_successive = rw mul-one (strings_successive _ _ _ inner.0);
        imports_successive = rw mul-one (strings_successive _ _ _ inner.1);
      }

  -- what is listed for an area is a pointer
  name_pointer : (p : ℕ) → Memᴰ p name_pointers → Pointer F p
  name_pointer p m = rw (Memᴰ.eq_of_singleton m) of_module

  export_pointer : (p : ℕ) → Memᴰ p (pointers_of F named_exports) → Pointer F p
  export_pointer p m =
      let found = listed_pointer named_exports (count F named_exports) 0 p m in
      rw found.2 (of_export found.0 (omega (arith, found.1)))

  import_pointer : (p : ℕ) → Memᴰ p import_pointers → Pointer F p
  import_pointer p m =
      elim (Memᴰ.append_cases (pointers_of F module_entries) m) [
        | inl former ↦
            let found = listed_pointer module_entries (count F module_entries) 0 p former in
            rw found.2 (of_entry found.0 (omega (arith, found.1)))
        | inr latter ↦
            let found = listed_pointer named_imports (count F named_imports) 0 p latter in
            rw found.2 (of_import found.0 (omega (arith, found.1)))
      ]

  -- a table's pointer is listed
  pointer_in : (t : Table) (i : ℕ) → i < count F t → Memᴰ (word F (entry F t i)) (pointers_of F t)
  pointer_in t i l = pointer_listed t (count F t) 0 i (omega arith) (omega arith)

  areas_named : NamesSuccessive → AreasNamed
  areas_named names = record { pointer_string = strings; area_string = covers }
    where
      strings : (p : ℕ) → Pointer F p → InSomeArea p
      strings p of_module = listed_string 0 name_pointers name_area names.name_successive p (Memᴰ.head refl)
      strings p (of_export i l) =
          listed_string 4 (pointers_of F named_exports) export_area names.exports_successive p (pointer_in named_exports i l)
      strings p (of_import i l) =
          listed_string 11 import_pointers import_area names.imports_successive p
          (Memᴰ.append_right (pointers_of F module_entries) (pointer_in named_imports i l))
      strings p (of_entry i l) =
          listed_string 11 import_pointers import_area names.imports_successive p
          (Memᴰ.append_left (pointers_of F named_imports) (pointer_in module_entries i l))

      covers : (k o : ℕ) → StringArea k → InPair F k o → StringWith k o
      covers k o name_area inside = listed-covers 0 o name_pointers names.name_successive name_pointer inside
      covers k o export_area inside = listed-covers 4 o (pointers_of F named_exports) names.exports_successive export_pointer inside
      covers k o import_area inside = listed-covers 11 o import_pointers names.imports_successive import_pointer inside

pub areas_are_named : (d : List ℕ) → named d ≡ true → AreasNamed (file_of d)
unfolding named
areas_are_named d is_named = areas_named (file_of d) (names_successive (file_of d) is_named)
