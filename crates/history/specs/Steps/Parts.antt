-- Where the bytes that are read stand: in a part of the image, and neither in a relocated word, nor a mark, nor the list words.
use Rattle.std.specs.Prelude.{if◌then◌else◌, ℕ, suc, ◌+◌, ◌*◌, ◌≤◌, ◌<◌, ◌≡◌, ◌≢◌, ◌⊎◌, Bool, true, not, ◌||◌, eqb}
use Rattle.std.proofs.Math.Path.{refl, ap}
use Rattle.std.proofs.Common.{sym, ◌∙◌, inr, mul-le-mul_right, suc-mul, lit<}
use Rattle.std.proofs.Math.Logic.{inl}
use Rattle.std.proofs.Math.Bool.{false}
use native.Mathlib.Omega.{arith}
use Rattle.std.proofs.Math.Nat.{zero-mul}
use Rattle.std.proofs.Math.Decide.{dec_lt}
use Rattle.window.specs.Within.{In}
use Rattle.history.specs.Below.{AllBelow, below}
use Rattle.history.specs.Image.{Table, tables, export_tree, externals, static_anonymous, static_relocations, start, count, entry}
use Rattle.history.specs.LoadedModule.{Image, base_of, size_of, Area}
use Rattle.history.specs.Imports.{Import, named, indexed, anonymous, import_table, import_entry}
use Rattle.history.specs.WellLaid.{Part, header, table, string, table_number, Pointer, InString, InPart, Asked, Touched, Relocated, WordAt, WellLaid}
use Rattle.history.specs.Steps.View.{Pointing, name-field, table-field, export_name_field, import_name, import_batch_field, entry-name, entry_indexed, entry_anonymous, Plain, handler-tag, table-count, export_tag, indexed_tag, import_index, import_tag, indexed_count, anonymous_count, relocation_tag, relocation_addend, relocation_kind, relocation_end, string_byte_at, Seen, pointing, plain, byte, segment}

-- the nine tables' fields stand in the header past the list words
pub field_bounds : (n : ℕ) → n < 9 → (0xc8 ≤ (table_number n).field) × ((table_number n).field + 8 ≤ 0x118)
unfolding tables AllBelow
field_bounds n l =
    below (λ k. (0xc8 ≤ (table_number k).field) × ((table_number k).field + 8 ≤ 0x118)) 9 n l (
      (omega arith, omega arith),
      (
        (omega arith, omega arith),
        (
          (omega arith, omega arith),
          (
            (omega arith, omega arith),
            (
              (omega arith, omega arith),
              ((omega arith, omega arith), ((omega arith, omega arith), ((omega arith, omega arith), ((omega arith, omega arith), tt)))),
            ),
          ),
        ),
      ),
    )

-- parts of different sorts or numbers are different
abbrev pub sort : Part → ℕ
sort header = 0
sort (table n) = 1
sort (string p) = 2

abbrev pub number : Part → ℕ
number header = 0
number (table n) = n
number (string p) = p

-- an entry's place among its table's rows
pub row : (i c w k : ℕ) → i < c → k < w → i * w + k < c * w
row i c w k h g =
    let m : suc i * w ≤ c * w = mul-le-mul_right w h in
    let e : suc i * w ≡ i * w + w = suc-mul i w in omega (arith, m, e)

-- the tables that are read whole, by where their offset stands
abbrev read_whole : ℕ → Bool
read_whole f =
    not (eqb f 0x100 || eqb f 0x108 || eqb f 0x110 || eqb f export_tree.field || eqb f static_anonymous.field || eqb f static_relocations.field)

abbrev field_of : Table → ℕ
field_of t = t.field

clash : {A : Type 0} → ◌≡◌ {A = Bool} true false → A
clash e = let z : ◌≡◌ {A = ℕ} 1 0 = ap (λ (b : Bool). if b then 1 else 0) e in absurd (omega (arith, z))

import_between : (i : Import) → (0x100 ≤ (import_table i).field) × ((import_table i).field ≤ 0x110)
import_between (named i) = (omega arith, omega arith)
import_between (indexed i) = (omega arith, omega arith)
import_between (anonymous i) = (omega arith, omega arith)

import_field : (i : Import) → read_whole (import_table i).field ≡ false
import_field (named i) = refl
import_field (indexed i) = refl
import_field (anonymous i) = refl

module _ (F : ℕ → ℕ) where
  -- such a table
  pub touched_other : (n o : ℕ) → read_whole (table_number n).field ≡ true → Touched F (table n) o
  unfolding Touched
  touched_other n o h = (no export_tree refl, no static_anonymous refl, no static_relocations refl, λ i l e a. no (import_table i) (import_field i) e)
    where
      no : {A : Type 0} (t : Table) → read_whole t.field ≡ false → table_number n ≡ t → A
      no t f e = clash (sym h ∙ ap (λ (u : Table). read_whole u.field) e ∙ f)

  -- an offset in the first word of an import is one of that import's entry
  first-asked
      : (i j : Import) (k : ℕ) → k < 8 → (import_table i).field ≡ (import_table j).field → In (import_entry F j) 4 (import_entry F i + k)
      → (k < 4 → Asked F i) → Asked F j
  unfolding import_entry entry Asked
  first-asked i (named b) k w e h a = tt
  first-asked (named c) (indexed b) k w e h a = absurd (omega (arith, e))
  first-asked (indexed c) (indexed b) k w e h a = let z : c ≡ b = omega (arith, h) in rw (← z) (a (omega (arith, h)))
  first-asked (anonymous c) (indexed b) k w e h a = absurd (omega (arith, e))
  first-asked (named c) (anonymous b) k w e h a = absurd (omega (arith, e))
  first-asked (indexed c) (anonymous b) k w e h a = absurd (omega (arith, e))
  first-asked (anonymous c) (anonymous b) k w e h a = let z : c ≡ b = omega (arith, h) in rw (← z) (a (omega (arith, h)))

  -- a table of imports: the first word of one that is asked for, the second of any
  pub touched_import
      : (n : ℕ) (i : Import) → table_number n ≡ import_table i → (k : ℕ) → k < 8 → (k < 4 → Asked F i) → Touched F (table n) (import_entry F i + k)
  unfolding Touched
  touched_import n i e k w a =
      let b = import_between i in (
        (λ f. absurd (omega (arith, b, ap field_of (sym e ∙ f)))),
        (λ f. absurd (omega (arith, b, ap field_of (sym e ∙ f)))),
        (λ f. absurd (omega (arith, b, ap field_of (sym e ∙ f)))),
        (λ j l f h. first-asked i j k w (ap field_of (sym e ∙ f)) h a),
      )

  -- a part that the linker reads, but not the list words and, of the external table, not the marks
  pub data ReadOffset : ℕ → Type 0 where
    in_header : (o : ℕ) → 0xac ≤ o → o < 0x118 → ReadOffset o
    in_table
        : (n i k : ℕ) → n < 9 → n ≢ 5 → i < count F (table_number n) → k < (table_number n).width
        → Touched F (table n) (entry F (table_number n) i + k) → ReadOffset (entry F (table_number n) i + k)
    in_external : (i k : ℕ) → i < count F externals → k < 12 → k ≢ 6 → ReadOffset (entry F externals i + k)
    in_string : (p o : ℕ) → Pointer F p → p ≢ 0 → InString F p o → o < p + 512 → ReadOffset o

  at_sum : {o q : ℕ} → ReadOffset o → o ≡ q → ReadOffset q
  at_sum s e = rw (← e) s

  read_offset_pointing : (o k : ℕ) → k < 4 → Pointing F o → ReadOffset (o + k)
  unfolding tables import_entry Asked
  read_offset_pointing o k l name-field = in_header (0xc0 + k) (omega arith) (omega arith)
  read_offset_pointing o k l (table-field n h) = let b = field_bounds n h in in_header ((table_number n).field + k) (omega (arith, b)) (omega (arith, b))
  read_offset_pointing o k l (export_name_field i h) = in_table 1 i k (lit< tt) (omega arith) h (omega arith) (touched_other 1 _ refl)
  read_offset_pointing o k l (import_name i h) = in_table 6 i k (lit< tt) (omega arith) h (omega arith) (touched_import 6 (named i) refl k (omega arith) (λ a. tt))
  read_offset_pointing o k l (import_batch_field (named i) h) =
      at_sum (in_table 6 i (4 + k) (lit< tt) (omega arith) h (omega arith) (touched_import 6 (named i) refl (4 + k) (omega arith) (λ a. tt))) (omega arith)
  read_offset_pointing o k l (import_batch_field (indexed i) h) =
      at_sum (in_table 7 i (4 + k) (lit< tt) (omega arith) h (omega arith) (touched_import 7 (indexed i) refl (4 + k) (omega arith) (λ a. absurd (omega arith)))) (omega arith)
  read_offset_pointing o k l (import_batch_field (anonymous i) h) =
      at_sum (in_table 8 i (4 + k) (lit< tt) (omega arith) h (omega arith) (touched_import 8 (anonymous i) refl (4 + k) (omega arith) (λ a. absurd (omega arith)))) (omega arith)
  read_offset_pointing o k l (entry-name j h) = in_table 4 j k (lit< tt) (omega arith) h (omega arith) (touched_other 4 _ refl)
  read_offset_pointing o k l (entry_indexed j h) =
      at_sum (in_table 4 j (4 + k) (lit< tt) (omega arith) h (omega arith) (touched_other 4 _ refl)) (omega arith)
  read_offset_pointing o k l (entry_anonymous j h) =
      at_sum (in_table 4 j (12 + k) (lit< tt) (omega arith) h (omega arith) (touched_other 4 _ refl)) (omega arith)

  read_offset_plain : (o k : ℕ) → k < 4 → Plain F o → ReadOffset (o + k)
  unfolding tables import_entry
  read_offset_plain o k l handler-tag = in_header (0xac + k) (omega arith) (omega arith)
  read_offset_plain o k l (table-count n h) =
      let b = field_bounds n h in in_header ((table_number n).field + 4 + k) (omega (arith, b)) (omega (arith, b))
  read_offset_plain o k l (export_tag i h) =
      at_sum (in_table 1 i (4 + k) (lit< tt) (omega arith) h (omega arith) (touched_other 1 _ refl)) (omega arith)
  read_offset_plain o k l (indexed_tag i h) = in_table 2 i k (lit< tt) (omega arith) h (omega arith) (touched_other 2 _ refl)
  read_offset_plain o k l (import_index i h a) = in_table 7 i k (lit< tt) (omega arith) h (omega arith) (touched_import 7 (indexed i) refl k (omega arith) (λ _. a))
  read_offset_plain o k l (import_tag i h a) = in_table 8 i k (lit< tt) (omega arith) h (omega arith) (touched_import 8 (anonymous i) refl k (omega arith) (λ _. a))
  read_offset_plain o k l (indexed_count j h) =
      at_sum (in_table 4 j (8 + k) (lit< tt) (omega arith) h (omega arith) (touched_other 4 _ refl)) (omega arith)
  read_offset_plain o k l (anonymous_count j h) =
      at_sum (in_table 4 j (16 + k) (lit< tt) (omega arith) h (omega arith) (touched_other 4 _ refl)) (omega arith)
  read_offset_plain o k l (relocation_tag j h) = in_external j k h (omega arith) (omega arith)
  read_offset_plain o k l (relocation_addend j h) = at_sum (in_external j (8 + k) h (omega arith) (omega arith)) (omega arith)

  pub read_offset : (o : ℕ) → Seen F o → ReadOffset o
  unfolding tables
  read_offset o (pointing p k l h) = read_offset_pointing p k l h
  read_offset o (plain p k l h) = read_offset_plain p k l h
  read_offset o (byte p (relocation_kind j h)) = in_external j 4 h (lit< tt) (omega arith)
  read_offset o (byte p (relocation_end j h)) = in_external j 5 h (lit< tt) (omega arith)
  read_offset o (byte p (string_byte_at q r h z i l)) = in_string q r h z i l
  read_offset o (segment i k l h) = in_table 0 i k (lit< tt) (omega arith) h l (touched_other 0 _ refl)

  -- an entry's bytes lie in its table
  pub entry-in_table
      : (n i k : ℕ) → n < 12 → i < count F (table_number n) → k < (table_number n).width → InPart F (table n) (entry F (table_number n) i + k)
  unfolding InPart tables entry
  entry-in_table n i k l h g =
      let r = row i (count F (table_number n)) (table_number n).width k h g in (l, (omega arith, omega (arith, r)))

  -- an offset that is read lies in a part that the linker reads
  pub read_offset_part : (o : ℕ) → ReadOffset o → (r : Part) × InPart F r o × Touched F r o
  unfolding InPart Touched tables
  read_offset_part o (in_header p g l) = (header, omega arith, tt)
  read_offset_part o (in_table n i k l b h g a) = (table n, entry-in_table n i k (omega arith) h g, a)
  read_offset_part o (in_external i k h g e) = (table 5, entry-in_table 5 i k (lit< tt) h g, touched_other 5 _ refl)
  read_offset_part o (in_string p q h z i l) = (string p, (h, z, i), l)

module _ (m : Image) (laid : WellLaid m) where
  abbrev F₀ : ℕ → ℕ
  F₀ = m.file

  abbrev base : ℕ
  base = base_of m.load_call

  abbrev whole : ℕ
  whole = size_of m.load_call

  -- a part lies in the image
  pub part-inside : (r : Part) (o : ℕ) → InPart F₀ r o → o < whole
  unfolding InPart entry
  part-inside header o h = omega (arith, laid.alone.header-inside)
  part-inside (table n) o h = go (laid.alone.tables-inside n h.0)
    where
      go
          : (count F₀ (table_number n) ≡ 0) ⊎ ((start F₀ (table_number n) ≢ 0) × (entry F₀ (table_number n) (count F₀ (table_number n)) ≤ whole))
          → o < whole
      go (inl e) = let z : 0 * (table_number n).width ≡ 0 = zero-mul (table_number n).width in absurd (omega (arith, z, rw e at h.1))
      go (inr g) = omega (arith, g.1, h.1)
  part-inside (string p) o h =
      let z = laid.alone.strings_inside p h.0 h.1 in
      elim (dec_lt o z.0) [
        | yes l ↦ omega (arith, z.2)
        | no l ↦ elim (dec_lt z.0 o) [ yes g ↦ absurd (h.2.1 z.0 z.1 g z.3) | no g ↦ omega (arith, z.2) ]
      ]

  pub image_area : (o : ℕ) → o < whole → Area m (base + o)
  unfolding Area
  image_area o l = inl (omega arith, omega arith)

  pub read_offset_inside : (o : ℕ) → ReadOffset F₀ o → o < whole
  read_offset_inside o s = let t = read_offset_part F₀ o s in part-inside t.0 o t.1

  -- two parts have no offset in common
  pub apart : (r s : Part) (o : ℕ) → r ≢ s → InPart F₀ r o → InPart F₀ s o → ⊥
  apart r s o n h g = laid.alone.parts-apart r s n o h g

  pub external_part : (i k : ℕ) → i < count F₀ externals → k < 12 → InPart F₀ (table 5) (entry F₀ externals i + k)
  unfolding tables
  external_part i k l g = entry-in_table F₀ 5 i k (lit< tt) l g

  pub past-header : (o : ℕ) (r : Part) → header ≢ r → InPart F₀ r o → 0x90 ≤ o
  unfolding InPart
  past-header o r n h = elim (dec_lt o 0x90) [ yes l ↦ absurd (apart header r o n (omega arith) h) | no l ↦ omega arith ]

  -- an offset that is read is no mark
  pub read_offset_no_mark : (o : ℕ) → ReadOffset F₀ o → (j : ℕ) → j < count F₀ externals → o ≢ entry F₀ externals j + 6
  unfolding InPart tables entry
  read_offset_no_mark o (in_header p g l) j h e =
      apart header (table 5) o (λ z. absurd (omega (arith, ap sort z))) (omega arith) (rw e (external_part j 6 h (lit< tt)))
  read_offset_no_mark o (in_table n i k l b f g a) j h e =
      apart (table n) (table 5) o (λ z. b (ap number z)) (entry-in_table F₀ n i k (omega arith) f g) (rw e (external_part j 6 h (lit< tt)))
  read_offset_no_mark o (in_external i k f g n) j h e = n (omega arith)
  read_offset_no_mark o (in_string p q f z i l) j h e =
      apart (string p) (table 5) o (λ z. absurd (omega (arith, ap sort z))) (f, z, i) (rw e (external_part j 6 h (lit< tt)))

  -- nor in the list words
  pub read_offset_no_list : (o : ℕ) → ReadOffset F₀ o → 0x90 ≤ o
  unfolding InPart
  read_offset_no_list o (in_header p g l) = omega arith
  read_offset_no_list o (in_table n i k l b f g a) =
      past-header o (table n) (λ z. absurd (omega (arith, ap sort z))) (entry-in_table F₀ n i k (omega arith) f g)
  read_offset_no_list o (in_external i k f g n) = past-header o (table 5) (λ z. absurd (omega (arith, ap sort z))) (external_part i k f g)
  read_offset_no_list o (in_string p q f z i l) = past-header o (string p) (λ z. absurd (omega (arith, ap sort z))) (f, z, i)

  -- nor in a relocated word
  pub read_offset_no_word : (o : ℕ) → ReadOffset F₀ o → (r : Relocated) (p : ℕ) → WordAt m r p → In p 4 (base + o) → ⊥
  read_offset_no_word o s r p h i = let t = read_offset_part F₀ o s in laid.in_place_lem.words-off r p h t.0 o t.1 t.2 i
