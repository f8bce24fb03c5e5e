-- A packed and named description makes an image that is well laid as far as its place does not matter, if and only if its runs and batches pass.
use Rattle.std.specs.Prelude.{ℕ, ◌-◌, ◌≤◌, ◌<◌, ◌≡◌, ◌≢◌, List, true, length}
use Rattle.std.proofs.Math.Path.{refl}
use Rattle.std.proofs.Common.{sym, ap, ◌∙◌, arith}
use Rattle.std.proofs.Math.Logic.{inr}
use Rattle.std.proofs.Math.Decide.{dec_le}
use Rattle.window.specs.Mirror.{word}
use Rattle.layout.specs.Header.{module_name_offset, header_size}
use Rattle.history.specs.Image.{tables, entry}
use Rattle.history.specs.WellLaid.{Part, header, table, string, InPart, LaidAlone}
use Rattle.writer_spec.specs.Description.{file_of, pair_block, packed, named, image_size, image_of}
use Rattle.writer_spec.specs.Runs.{runs_good}
use Rattle.writer_spec.specs.Batches.{batches_good}
use Rattle.writer_laid.specs.Same.{image_byte}
use Rattle.writer_laid.specs.Cases.{neither_below}
use Rattle.writer_laid.specs.Alone.Layout.{PairsInOrder, pairs_in_order, image_holds}
use Rattle.writer_laid.specs.Alone.Pairs.{StringArea, InPair, table-past-first, area_past-first, area_only, area_inside, table-off_areas, tables-apart, table-inside}
use Rattle.writer_laid.specs.Alone.Strings.{StringAt, StringOfArea, AreasNamed, areas_are_named}
use Rattle.writer_laid.specs.Alone.Agree.{pairs_agree, areas_agree, runs_agree, batches_agree}
use Rattle.writer_laid.specs.Alone.RunsLaid.{good_runs, good_one-run, runs_good_lem}
use Rattle.writer_laid.specs.Alone.BatchesLaid.{good_batches, good_own-batch, batches_good_lem}

-- an offset before which a string has no zero comes before the string's end
string_to : (F : ℕ → ℕ) (p ending o : ℕ) → StringAt F p ending → ((z : ℕ) → p ≤ z → z < o → F z ≢ 0) → o ≤ ending
string_to F p ending o there nonzero =
    elim (dec_le o ending) [
      | yes within ↦ within
      | no past ↦ absurd (nonzero ending there.ordered (omega arith) there.zero-there)
    ]

module _ (F : ℕ → ℕ) (size : ℕ) (in_order : PairsInOrder F size) where
  -- a table comes after the header
  table-past-header : (n o : ℕ) → InPart F (table n) o → header_size ≤ o
  unfolding InPart tables
  table-past-header n o h = omega (arith, h.1, table-inside F size in_order n h.0)

  -- and after the start of the module's name
  pub table-past-name : (n o : ℕ) → InPart F (table n) o → word F module_name_offset ≤ o
  unfolding pair_block
  table-past-name n o h = table-past-first F size in_order n o h

  module _ (areas : AreasNamed F) where
    -- a string lies in its area, up to its zero
    pub record InArea (p o : ℕ) : Type 0 where
      pub area : ℕ
      pub is_area_lem : StringArea area
      pub ending : ℕ
      pub string_of : StringOfArea F area p ending
      pub from : p ≤ o
      pub to : o ≤ ending
      pub in_pair : InPair F area o

    pub in_area : (p o : ℕ) → InPart F (string p) o → InArea p o
    unfolding InPart
    in_area p o h =
        let found = areas.pointer_string p h.0 in
        let string-in = found.3 in
        let last = string_to F p found.2 o string-in.string_there h.2.1 in
        record {
          area = found.0;
          is_area_lem = found.1;
          ending = found.2;
          string_of = string-in;
          from = h.2.0;
          to = last;
          in_pair = (omega (arith, string-in.after-start, h.2.0), omega (arith, string-in.before_end));
        }

    string_past-header : (p o : ℕ) → InPart F (string p) o → header_size ≤ o
    string_past-header p o h =
        let there = in_area p o h in omega (arith, there.in_pair.0, area_inside F size in_order there.area there.is_area_lem)

    pub string_past-name : (p o : ℕ) → InPart F (string p) o → word F module_name_offset ≤ o
    unfolding pair_block
    string_past-name p o h = let there = in_area p o h in area_past-first F size in_order there.area o there.is_area_lem there.in_pair

    -- every part lies in the file
    pub part-inside : (s : Part) (o : ℕ) → InPart F s o → o < size
    unfolding InPart tables entry
    part-inside header o h = omega (arith, h, in_order.pair_inside 0 (omega arith))
    part-inside (table n) o h = omega (arith, h.1, table-inside F size in_order n h.0)
    part-inside (string p) o h =
        let there = in_area p o h in omega (arith, there.in_pair.1, area_inside F size in_order there.area there.is_area_lem)

    -- the later of two strings of one area starts after a zero, which is past the other's end
    later_string
        : (k p q e f o : ℕ) → StringOfArea F k p e → StringOfArea F k q f → p < q → q ≤ o → o ≤ e → ⊥
    later_string k p q e f o former latter l m n =
        former.string_there.no_zero_before (q - 1) (omega arith) (omega arith) (latter.after-zero (omega (arith, former.after-start)))

    strings_apart : (p q o : ℕ) → InPart F (string p) o → InPart F (string q) o → p ≡ q
    strings_apart p q o h g =
        let former = in_area p o h in
        let latter = in_area q o g in
        let same = area_only F size in_order former.area latter.area o former.is_area_lem latter.is_area_lem former.in_pair latter.in_pair in
        let here : StringOfArea F latter.area p former.ending = rw same at former.string_of in
        neither_below p q
        (λ before. later_string latter.area p q former.ending latter.ending o here latter.string_of before latter.from former.to)
        (λ after. later_string latter.area q p latter.ending former.ending o latter.string_of here after former.from latter.to)

    table-off_string : (n p o : ℕ) → InPart F (table n) o → InPart F (string p) o → ⊥
    table-off_string n p o h g =
        let there = in_area p o g in table-off_areas F size in_order n there.area o there.is_area_lem h there.in_pair

    parts_are_apart : (r s : Part) → r ≢ s → (o : ℕ) → InPart F r o → InPart F s o → ⊥
    unfolding InPart
    parts_are_apart header header other o h g = other refl
    parts_are_apart header (table n) other o h g = omega (arith, h, table-past-header n o g)
    parts_are_apart header (string p) other o h g = omega (arith, h, string_past-header p o g)
    parts_are_apart (table n) header other o h g = omega (arith, g, table-past-header n o h)
    parts_are_apart (table n) (table m) other o h g = other (ap table (tables-apart F size in_order n m o h g))
    parts_are_apart (table n) (string p) other o h g = table-off_string n p o h g
    parts_are_apart (string p) header other o h g = omega (arith, g, string_past-header p o h)
    parts_are_apart (string p) (table n) other o h g = table-off_string n p o g h
    parts_are_apart (string p) (string q) other o h g = other (ap string (strings_apart p q o h g))

    file-alone : runs_good F ≡ true → batches_good F ≡ true → LaidAlone F size
    unfolding tables
    file-alone runs_pass batches_pass =
        record {
          header-inside = omega (arith, in_order.pair_inside 0 (omega arith));
          tables-inside = λ n l. let inside = table-inside F size in_order n l in inr ((λ none. absurd (omega (arith, inside.0))), inside.1);
          strings_inside = λ p pointer there.
              let found = areas.pointer_string p pointer in
              let inside = area_inside F size in_order found.0 found.1 in
              let string-in = found.3 in
              (found.2, string-in.string_there.ordered, omega (arith, string-in.before_end, inside.1), string-in.string_there.zero-there);
          parts-apart = parts_are_apart;
          runs = good_runs F runs_pass;
          one-run = good_one-run F runs_pass;
          batches = good_batches F batches_pass;
          own-batch = good_own-batch F batches_pass;
        }

module _ (d : List ℕ) (is_packed : packed d ≡ true) where
  -- the image's pairs and areas
  pub image_in_order : PairsInOrder (file_of (image_of d)) (image_size d)
  image_in_order =
      pairs_agree (file_of d) (file_of (image_of d)) (image_byte d) (length d) (image_size d) (image_holds d is_packed) (pairs_in_order d is_packed)

  pub image_areas : named d ≡ true → AreasNamed (file_of (image_of d))
  image_areas is_named =
      areas_agree (file_of d) (file_of (image_of d)) (image_byte d) (length d) (pairs_in_order d is_packed) (areas_are_named d is_named)

  image_runs : runs_good (file_of (image_of d)) ≡ runs_good (file_of d)
  image_runs = runs_agree (file_of d) (file_of (image_of d)) (image_byte d) (length d) (pairs_in_order d is_packed)

  image_batches : batches_good (file_of (image_of d)) ≡ batches_good (file_of d)
  image_batches = batches_agree (file_of d) (file_of (image_of d)) (image_byte d) (length d) (pairs_in_order d is_packed)

  pub laid-alone : named d ≡ true → runs_good (file_of d) ≡ true → batches_good (file_of d) ≡ true → LaidAlone (file_of (image_of d)) (image_size d)
  laid-alone is_named runs_pass batches_pass =
      file-alone (file_of (image_of d)) (image_size d) image_in_order (image_areas is_named) (image_runs ∙ runs_pass) (image_batches ∙ batches_pass)

  -- conversely
  pub alone_runs : LaidAlone (file_of (image_of d)) (image_size d) → runs_good (file_of d) ≡ true
  alone_runs laid = sym image_runs ∙ runs_good_lem (file_of (image_of d)) laid.runs laid.one-run

  pub alone_batches : LaidAlone (file_of (image_of d)) (image_size d) → batches_good (file_of d) ≡ true
  alone_batches laid = sym image_batches ∙ batches_good_lem (file_of (image_of d)) laid.batches laid.own-batch
