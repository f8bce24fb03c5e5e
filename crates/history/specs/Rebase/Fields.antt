-- Reading at any stage of a rebase: the tables' starts and counts, and a segment as the file has it.
use Rattle.std.specs.Prelude.{ℕ, ◌+◌, ◌-◌, ◌*◌, ◌≤◌, ◌<◌, ◌≡◌, refl, List, Some}
use native.Mathlib.Omega.{arith}
use Rattle.std.proofs.Common.{lit<, lit≤, lt-ltb}
use Rattle.window.specs.Memory.{◌⊕◌}
use Rattle.window.specs.Access.{get32}
use Rattle.window.specs.Within.{Low}
use Rattle.window.specs.Mirror.{word}
use Rattle.layout.specs.Header.{segment_num, segment_table_offset}
use Rattle.layout.specs.Segments.{field, segment_entry, segment}
use Rattle.history.specs.Below.{AllBelow, below}
use Rattle.history.specs.Image.{tables, segments, start, count, entry, file_segment}
use Rattle.history.specs.LoadedModule.{Image, base_of, size_of, moved_offset, Area}
use Rattle.history.specs.WellLaid.{table, table_number, WellLaid}
use Rattle.history.specs.Steps.Wp.{Memory, ReadsValue, reads_then, reads_ret, reads_get32}
use Rattle.history.specs.Steps.Parts.{part-inside, entry-in_table}
use Rattle.history.specs.Steps.Reading.{plain-sum, four_at, entry_at_lem}
use Rattle.history.specs.Rebase.PartlyRebased.{word_is, PartlyRebased, header_reads}

-- a table's field is one of the 17 that move, and no table has empty entries
abbrev FieldOf : ℕ → Type 0
FieldOf n = ((f : ℕ) × (f < 17) × ((table_number n).field ≡ 0xb0 + 8 * f)) × (0 < (table_number n).width)

-- those of the first six tables, and of the other six
first_fields : AllBelow FieldOf 6
unfolding tables AllBelow
first_fields = (
  ((9, lit< tt, refl), lit< tt),
  (
    ((8, lit< tt, refl), lit< tt),
    (
      ((7, lit< tt, refl), lit< tt),
      (((5, lit< tt, refl), lit< tt), (((4, lit< tt, refl), lit< tt), (((3, lit< tt, refl), lit< tt), tt))),
    ),
  ),
)

pub field_of : (n : ℕ) → n < 12 → FieldOf n
unfolding tables AllBelow
field_of n l =
    below FieldOf 12 n l (
      ((16, lit< tt, refl), lit< tt),
      (
        ((15, lit< tt, refl), lit< tt),
        (
          ((14, lit< tt, refl), lit< tt),
          (((12, lit< tt, refl), lit< tt), (((11, lit< tt, refl), lit< tt), (((10, lit< tt, refl), lit< tt), first_fields))),
        ),
      ),
    )

module _ (m : Image) (laid : WellLaid m) (low : Low (Area m)) where
  abbrev F : ℕ → ℕ
  F = m.file

  abbrev base : ℕ
  base = base_of m.load_call

  abbrev S : ℕ → Type 0
  S = Area m

  -- an entry lies in the image
  pub entry-inside : (n i : ℕ) → n < 12 → i < count F (table_number n) → entry F (table_number n) i + (table_number n).width ≤ size_of m.load_call
  entry-inside n i l h =
      let w = (field_of n l).1 in
      let e = part-inside m laid (table n) _ (entry-in_table F n i ((table_number n).width - 1) l h (omega (arith, w))) in omega (arith, w, e)

  module _ {ζ : ℕ → List ℕ} {M : Memory} (s : PartlyRebased m ζ M) where
    pub start_is : (n : ℕ) → n < 12 → word M (base + (table_number n).field) ≡ moved_offset base (start F (table_number n))
    unfolding start
    start_is n l = let f = (field_of n l).0 in rw f.2 (s.fields f.0 f.1)

    pub count_is : (n : ℕ) → n < 12 → word M (base + ((table_number n).field + 4)) ≡ count F (table_number n)
    unfolding count
    count_is n l =
        let f = (field_of n l).0 in
        rw f.2
        (word_is F M base (0xb0 + 8 * f.0 + 4)
        (λ k h.
        s.header-plain (0xb0 + 8 * f.0 + 4 + k) (omega (arith, f.1)) ((λ i. absurd (omega (arith, i))), λ j g i. absurd (omega (arith, i)))))

    pub reads_start : (n : ℕ) → n < 12 → ReadsValue S (field base (table_number n).field) (moved_offset base (start F (table_number n))) M
    reads_start n l = let f = (field_of n l).0 in header_reads m laid low (table_number n).field (omega (arith, f.1, f.2)) (start_is n l)

    pub reads_count : (n : ℕ) → n < 12 → ReadsValue S (field base ((table_number n).field + 4)) (count F (table_number n)) M
    reads_count n l = let f = (field_of n l).0 in header_reads m laid low ((table_number n).field + 4) (omega (arith, f.1, f.2)) (count_is n l)

    module _ (i : ℕ) (l : i < count F segments) (plain : (k : ℕ) → k < 12 → M (base + (entry F segments i + k)) ≡ F (entry F segments i + k)) where
      inside : entry F segments i + 12 ≤ size_of m.load_call
      unfolding tables
      inside = entry-inside 0 i (lit< tt) l

      reads_part : (x : ℕ) → x + 4 ≤ 12 → ReadsValue S (get32 (base + (entry F segments i + x))) (word F (entry F segments i + x)) M
      reads_part x h =
          reads_get32 S _ (four_at m laid low (entry F segments i + x) (omega (arith, inside)))
          (word_is F M base (entry F segments i + x)
          (λ k g. let e : entry F segments i + x + k ≡ entry F segments i + (x + k) = omega arith in rw e (plain (x + k) (omega arith))))

      reads_entry : ReadsValue S (segment_entry (base + entry F segments i)) (file_segment F i) M
      unfolding segment_entry file_segment
      reads_entry =
          let t = plain-sum m laid low (entry F segments i + 11) (omega (arith, inside)) in
          let e₀ : entry F segments i + 0 ≡ entry F segments i = omega arith in
          let e₄ : base + entry F segments i ⊕ 4 ≡ base + (entry F segments i + 4) = omega (arith, t) in
          let e₈ : base + entry F segments i ⊕ 8 ≡ base + (entry F segments i + 8) = omega (arith, t) in
          reads_then S (get32 (base + entry F segments i)) _ (word F (entry F segments i)) (rw e₀ at (reads_part 0 (lit≤ tt)))
          (rw (e₄, e₈)
          (reads_then S (get32 (base + (entry F segments i + 4))) _ _ (reads_part 4 (lit≤ tt))
          (reads_then S (get32 (base + (entry F segments i + 8))) _ _ (reads_part 8 (lit≤ tt)) (reads_ret S _))))

      pub reads_file-segment : ReadsValue S (segment base i) (Some (file_segment F i)) M
      unfolding segment tables
      reads_file-segment =
          reads_then S (field base segment_num) _ (count F segments) (reads_count 0 (lit< tt))
          (rw (lt-ltb i (count F segments) l)
          (reads_then S (field base segment_table_offset) _ (moved_offset base (start F segments)) (reads_start 0 (lit< tt))
          (rw (entry_at_lem m laid low 0 i (lit< tt) l (omega (arith, inside)))
          (reads_then S (segment_entry (base + entry F segments i)) _ _ reads_entry (reads_ret S _)))))
