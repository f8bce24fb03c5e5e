-- Which of the header's 15 pairs holds which table; an offset lies in one pair at most.
use Rattle.std.specs.Prelude.{ℕ, zero, suc, ◌+◌, ◌*◌, ◌≤◌, ◌<◌, ◌≡◌, refl, [], ◌∷◌, Bool, true, false, not, ◌&&◌, ◌||◌, get_or, eqb, ltb}
use Rattle.std.proofs.Common.{sym, ◌∙◌, eqb-true, ltb-true}
use native.Mathlib.Omega.{arith}
use Rattle.std.proofs.lemmas.Bool.{not-true}
use Rattle.window.specs.Tests.{both}
use Rattle.window.specs.Within.{In}
use Rattle.layout.specs.Header.{module_name_offset, header_size}
use Rattle.layout.specs.Tables.{table_entry_sizes}
use Rattle.history.specs.Below.{AllBelow, below}
use Rattle.history.specs.Image.{tables, start, count, entry}
use Rattle.history.specs.WellLaid.{table, table_number, InPart}
use Rattle.writer_spec.specs.All.{all_below, all-at}
use Rattle.writer_spec.specs.Description.{pair_block}
use Rattle.writer_laid.specs.Cases.{contradiction, neither_below}
use Rattle.writer_laid.specs.Alone.Layout.{PairsInOrder}

-- what holds of each of the 12 tables
pub each_table
    : (P : ℕ → Type 0) → P 0 → P 1 → P 2 → P 3 → P 4 → P 5 → P 6 → P 7 → P 8 → P 9 → P 10 → P 11 → (n : ℕ) → n < 12 → P n
unfolding AllBelow
each_table P p₀ p₁ p₂ p₃ p₄ p₅ p₆ p₇ p₈ p₉ p₁₀ p₁₁ n l =
    below P 12 n l (p₁₁, (p₁₀, (p₉, (p₈, (p₇, (p₆, (p₅, (p₄, (p₃, (p₂, (p₁, (p₀, tt))))))))))))

-- the pairs of the 12 tables, in their order
abbrev pair_of : ℕ → ℕ
pair_of n = get_or (1 ∷ 2 ∷ 3 ∷ 5 ∷ 6 ∷ 7 ∷ 8 ∷ 9 ∷ 10 ∷ 12 ∷ 13 ∷ 14 ∷ []) n 0

-- the pairs that are string areas: of the module's name, of exports and of imports
pub data StringArea : ℕ → Type 0 where
  name_area : StringArea 0
  export_area : StringArea 4
  import_area : StringArea 11

-- the same, as a test
abbrev is_area : ℕ → Bool
is_area k = eqb k 0 || (eqb k 4 || eqb k 11)

area_tested : (k : ℕ) → StringArea k → (is_area k ≡ true) × (k < 15)
area_tested k name_area = (refl, omega arith)
area_tested k export_area = (refl, omega arith)
area_tested k import_area = (refl, omega arith)

-- what is tested of each table
abbrev pair_fits : ℕ → Bool
pair_fits n =
    ltb (pair_of n) 15
    && (not (is_area (pair_of n))
    && (eqb (table_number n).field (module_name_offset + 8 * pair_of n) && eqb (table_number n).width (get_or table_entry_sizes (pair_of n) 0)))

all_fit : all_below 12 pair_fits ≡ true
unfolding all_below tables table_entry_sizes
all_fit = refl

all_ordered : all_below 12 (λ m. all_below m (λ n. ltb (pair_of n) (pair_of m))) ≡ true
unfolding all_below
all_ordered = refl

record PairFits (n : ℕ) : Type 0 where
  low : pair_of n < 15
  no_area : is_area (pair_of n) ≡ false
  same-field : (table_number n).field ≡ module_name_offset + 8 * pair_of n
  same_width : (table_number n).width ≡ get_or table_entry_sizes (pair_of n) 0

pair_fits_lem : (n : ℕ) → n < 12 → PairFits n
pair_fits_lem n l =
    let number = both (ltb (pair_of n) 15) _ (all-at 12 pair_fits all_fit n l) in
    let area = both (not (is_area (pair_of n))) _ number.1 in
    let words = both (eqb (table_number n).field (module_name_offset + 8 * pair_of n)) _ area.1 in
    record {
      low = ltb-true (pair_of n) 15 number.0;
      no_area = not-true (is_area (pair_of n)) area.0;
      same-field = eqb-true (table_number n).field (module_name_offset + 8 * pair_of n) words.0;
      same_width = eqb-true (table_number n).width (get_or table_entry_sizes (pair_of n) 0) words.1;
    }

-- different tables are in different pairs
pairs_ascend : (n m : ℕ) → n < m → m < 12 → pair_of n < pair_of m
pairs_ascend n m l h =
    ltb-true (pair_of n) (pair_of m)
    (all-at m (λ i. ltb (pair_of i) (pair_of m)) (all-at 12 (λ k. all_below k (λ i. ltb (pair_of i) (pair_of k))) all_ordered m h) n l)

pair_tells : (n m : ℕ) → n < 12 → m < 12 → pair_of n ≡ pair_of m → n ≡ m
pair_tells n m l h same =
    neither_below n m (λ before. omega (arith, pairs_ascend n m before h)) (λ after. omega (arith, pairs_ascend m n after l))

-- a table's offset stands in the header after the module name's
pub field-after-name : (n : ℕ) → n < 12 → module_name_offset ≤ (table_number n).field
field-after-name n l = omega (arith, (pair_fits_lem n l).same-field)

-- the offsets of pair k
abbrev pub InPair : (ℕ → ℕ) → (k o : ℕ) → Type 0
InPair F k o = In (pair_block F k).offset (pair_block F k).size o

module _ (F : ℕ → ℕ) where
  -- a table's offset and bytes are its pair's
  table-start : (n : ℕ) → n < 12 → start F (table_number n) ≡ (pair_block F (pair_of n)).offset
  unfolding start pair_block
  table-start n l = rw (pair_fits_lem n l).same-field

  table-bytes : (n : ℕ) → n < 12 → count F (table_number n) * (table_number n).width ≡ (pair_block F (pair_of n)).size
  unfolding count pair_block
  table-bytes n l =
      let same : module_name_offset + 8 * pair_of n + 4 ≡ module_name_offset + (8 * pair_of n + 4) = omega arith in
      rw ((pair_fits_lem n l).same_width, (pair_fits_lem n l).same-field, same)

  in_table-pair : (n o : ℕ) → InPart F (table n) o → (n < 12) × InPair F (pair_of n) o
  unfolding InPart tables
  in_table-pair n o h = (h.0, rw (← (table-start n h.0), ← (table-bytes n h.0)) h.1)

module _ (F : ℕ → ℕ) (end : ℕ) (in_order : PairsInOrder F end) where
  -- an offset lies in one pair at most
  pair_only : (j k o : ℕ) → j < 15 → k < 15 → InPair F j o → InPair F k o → j ≡ k
  pair_only j k o l m h g =
      neither_below j k (λ before. omega (arith, in_order.pair_before j k before m)) (λ after. omega (arith, in_order.pair_before k j after l))

  -- all pairs come after the first one's start
  pair-past-first : (k o : ℕ) → k < 15 → InPair F k o → (pair_block F 0).offset ≤ o
  pair-past-first zero o l h = h.0
  pair-past-first (suc k) o l h = omega (arith, h.0, in_order.pair_before 0 (suc k) (omega arith) l)

  pub table-past-first : (n o : ℕ) → InPart F (table n) o → (pair_block F 0).offset ≤ o
  table-past-first n o h = let pair = in_table-pair F n o h in pair-past-first (pair_of n) o (pair_fits_lem n pair.0).low pair.1

  pub area_past-first : (k o : ℕ) → StringArea k → InPair F k o → (pair_block F 0).offset ≤ o
  area_past-first k o area h = pair-past-first k o (area_tested k area).1 h

  -- a table is in no string area, and two tables have no offset in common
  pub table-off_areas : (n k o : ℕ) → StringArea k → InPart F (table n) o → InPair F k o → ⊥
  table-off_areas n k o area h g =
      let pair = in_table-pair F n o h in
      let same = pair_only (pair_of n) k o (pair_fits_lem n pair.0).low (area_tested k area).1 pair.1 g in
      contradiction (sym (pair_fits_lem n pair.0).no_area ∙ rw same (area_tested k area).0)

  -- an offset lies in one string area at most
  pub area_only : (j k o : ℕ) → StringArea j → StringArea k → InPair F j o → InPair F k o → j ≡ k
  area_only j k o former latter h g = pair_only j k o (area_tested j former).1 (area_tested k latter).1 h g

  -- an area comes after the header
  pub area_inside : (k : ℕ) → StringArea k → (header_size ≤ (pair_block F k).offset) × ((pair_block F k).offset + (pair_block F k).size ≤ end)
  area_inside k area = in_order.pair_inside k (area_tested k area).1

  pub tables-apart : (n m o : ℕ) → InPart F (table n) o → InPart F (table m) o → n ≡ m
  tables-apart n m o h g =
      let former = in_table-pair F n o h in
      let latter = in_table-pair F m o g in
      pair_tells n m former.0 latter.0 (pair_only (pair_of n) (pair_of m) o (pair_fits_lem n former.0).low (pair_fits_lem m latter.0).low former.1 latter.1)

  -- a table lies between the header and the end
  pub table-inside : (n : ℕ) → n < 12 → (header_size ≤ start F (table_number n)) × (entry F (table_number n) (count F (table_number n)) ≤ end)
  unfolding entry
  table-inside n l =
      rw (table-start F n l, table-bytes F n l) (in_order.pair_inside (pair_of n) (pair_fits_lem n l).low)
