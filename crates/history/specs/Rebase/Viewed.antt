-- After the five pointer tables the image shows its view.
use Rattle.std.specs.Prelude.{ℕ, ◌+◌, ◌≤◌, ◌<◌, ◌≡◌, ◌≢◌, ◌⊎◌, List, [], ◌∷◌}
use Rattle.std.proofs.Math.Path.{refl}
use Rattle.std.proofs.Math.Logic.{inl, inr}
use Rattle.std.proofs.Math.Bool.{true}
use Rattle.std.proofs.Common.{arith, lit<, lit≤}
use Rattle.window.specs.Within.{In, Low}
use Rattle.window.specs.Mirror.{word}
use Rattle.layout.specs.Header.{on_unresolved_segment_tag}
use Rattle.layout.specs.Tables.{pointer_table, pointer_tables}
use Rattle.linker_spec.specs.Rebase.{move_table, move_tables}
use Rattle.history.specs.Image.{tables, start, count, entry}
use Rattle.history.specs.LoadedModule.{Image, base_of, moved_offset, Area}
use Rattle.history.specs.Imports.{named, indexed, anonymous, import_entry}
use Rattle.history.specs.WellLaid.{table_number, InPart, WellLaid}
use Rattle.history.specs.Steps.Wp.{Memory, Does, does_ret, does_then}
use Rattle.history.specs.Steps.View.{Pointing, name-field, table-field, export_name_field, import_name, import_batch_field, entry-name, entry_indexed, entry_anonymous, Plain, handler-tag, table-count, export_tag, indexed_tag, import_index, import_tag, indexed_count, anonymous_count, relocation_tag, relocation_addend, PlainByte, relocation_kind, relocation_end, string_byte_at, View}
use Rattle.history.specs.Rebase.Cells.{Member, Spread}
use Rattle.history.specs.Rebase.PartlyRebased.{word_is, PartlyRebased, Rows}
use Rattle.history.specs.Rebase.Header.{unmoved}
use Rattle.history.specs.Rebase.Fields.{start_is, count_is}
use Rattle.history.specs.Rebase.Tables.{with_columns, table_moves}

-- every number of the list is in an entry of w bytes; is apart from the word at x
unfoldable pub InEntry : ℕ → List ℕ → Type 0
InEntry w [] = Unit {0}
InEntry w (y ∷ ys) = (y + 4 ≤ w) × InEntry w ys

pub fits : (w : ℕ) (ys : List ℕ) → InEntry w ys → (x : ℕ) → Member x ys → x + 4 ≤ w
unfolding InEntry Member
fits w [] f x a = absurd a
fits w (y ∷ ys) f x (inl e) = rw e f.0
fits w (y ∷ ys) f x (inr a) = fits w ys f.1 x a

unfoldable pub ClearOf : ℕ → List ℕ → Type 0
ClearOf x [] = Unit {0}
ClearOf x (y ∷ ys) = ((y + 4 ≤ x) ⊎ (x + 4 ≤ y)) × ClearOf x ys

away : (x k : ℕ) (ys : List ℕ) → ClearOf x ys → k < 4 → (y : ℕ) → Member y ys → In y 4 (x + k) → ⊥
unfolding ClearOf Member
away x k [] f l y a i = absurd a
away x k (z ∷ ys) f l y (inl e) i = elim f.0 [ inl h ↦ absurd (omega (arith, e, h, i)) | inr h ↦ absurd (omega (arith, e, h, i)) ]
away x k (z ∷ ys) f l y (inr a) i = away x k ys f.1 l y a i

-- the columns of the five tables
unfoldable pub pointed : ℕ → List ℕ
pointed =
    with_columns
    (with_columns (with_columns (with_columns (with_columns unmoved 1 (0 ∷ [])) 4 (0 ∷ 4 ∷ 12 ∷ [])) 6 (0 ∷ 4 ∷ [])) 7 (4 ∷ []))
    8 (4 ∷ [])

one : (x : ℕ) → Spread (x ∷ [])
unfolding Spread Member
one x = ((λ y a. absurd a), tt)

module _ (m : Image) (laid : WellLaid m) (low : Low (Area m)) where
  abbrev F : ℕ → ℕ
  F = m.file

  abbrev base : ℕ
  base = base_of m.load_call

  abbrev S : ℕ → Type 0
  S = Area m

  pub tables_move
      : {M : Memory} → PartlyRebased m unmoved M → Rows m M → Does S (move_tables true base pointer_tables) (λ _ N. PartlyRebased m pointed N × Rows m N) M
  unfolding move_tables move_table pointer_tables tables with_columns pointed Spread Member InEntry
  tables_move s r =
      does_then S (move_table true base (pointer_table 0xd0 0xd4 8 1 0 0 0)) _
      (table_moves m laid low 1 (0 ∷ []) (lit< tt) (one 0) (fits 8 (0 ∷ []) (lit≤ tt, tt)) (omega arith) refl s r)
      (λ _ M₁ h₁.
      does_then S (move_table true base (pointer_table 0xf0 0xf4 20 3 0 4 12)) _
      (table_moves m laid low 4 (0 ∷ 4 ∷ 12 ∷ []) (lit< tt) three (fits 20 (0 ∷ 4 ∷ 12 ∷ []) (lit≤ tt, (lit≤ tt, (lit≤ tt, tt))))
      (omega arith) refl h₁.0 h₁.1)
      (λ _ M₂ h₂.
      does_then S (move_table true base (pointer_table 0x100 0x104 8 2 0 4 0)) _
      (table_moves m laid low 6 (0 ∷ 4 ∷ []) (lit< tt) two (fits 8 (0 ∷ 4 ∷ []) (lit≤ tt, (lit≤ tt, tt))) (omega arith) refl h₂.0 h₂.1)
      (λ _ M₃ h₃.
      does_then S (move_table true base (pointer_table 0x108 0x10c 8 1 4 0 0)) _
      (table_moves m laid low 7 (4 ∷ []) (lit< tt) (one 4) (fits 8 (4 ∷ []) (lit≤ tt, tt)) (omega arith) refl h₃.0 h₃.1)
      (λ _ M₄ h₄.
      does_then S (move_table true base (pointer_table 0x110 0x114 8 1 4 0 0)) _
      (table_moves m laid low 8 (4 ∷ []) (lit< tt) (one 4) (fits 8 (4 ∷ []) (lit≤ tt, tt)) (omega arith) refl h₄.0 h₄.1)
      (λ _ M₅ h₅. does_ret S h₅)))))
    where
      two : Spread (0 ∷ 4 ∷ [])
      two = ((λ x a. elim a [ inl e ↦ omega (arith, e) | inr b ↦ absurd b ]), one 4)

      three : Spread (0 ∷ 4 ∷ 12 ∷ [])
      three = (
        (λ x a. elim a [ inl e ↦ omega (arith, e) | inr b ↦ elim b [ inl e ↦ omega (arith, e) | inr c ↦ absurd c ] ]),
        ((λ x a. elim a [ inl e ↦ omega (arith, e) | inr b ↦ absurd b ]), one 12),
      )

  module _ {M : Memory} (s : PartlyRebased m pointed M) (r : Rows m M) where
    -- a word of table n, by its column
    column : (n i x : ℕ) → n < 12 → n ≢ 0 → i < count F (table_number n) → x + 4 ≤ (table_number n).width → ClearOf x (pointed n)
        → word M (base + (entry F (table_number n) i + x)) ≡ word F (entry F (table_number n) i + x)
    column n i x l z h w a =
        word_is F M base (entry F (table_number n) i + x)
        (λ k g.
        let e : entry F (table_number n) i + x + k ≡ entry F (table_number n) i + (x + k) = omega arith in
        rw e (s.plain n i (x + k) l z h (omega arith) (away x k (pointed n) a g)))

    column_0 : (n i : ℕ) → n < 12 → n ≢ 0 → i < count F (table_number n) → 4 ≤ (table_number n).width → ClearOf 0 (pointed n)
        → word M (base + entry F (table_number n) i) ≡ word F (entry F (table_number n) i)
    column_0 n i l z h w a = let e : entry F (table_number n) i + 0 ≡ entry F (table_number n) i = omega arith in rw e at (column n i 0 l z h w a)

    moved_0
        : (n i : ℕ) → n < 12 → n ≢ 0 → i < count F (table_number n) → Member 0 (pointed n)
        → word M (base + entry F (table_number n) i) ≡ moved_offset base (word F (entry F (table_number n) i))
    moved_0 n i l z h a = let e : entry F (table_number n) i + 0 ≡ entry F (table_number n) i = omega arith in rw e at (s.moved n i 0 l z h a)

    moves : (o : ℕ) → Pointing F o → word M (base + o) ≡ moved_offset base (word F o)
    unfolding tables start pointed with_columns Member import_entry
    moves o name-field = s.fields 2 (lit< tt)
    moves o (table-field n l) = start_is m laid low s n (omega arith)
    moves o (export_name_field i l) = moved_0 1 i (lit< tt) (omega arith) l (inl refl)
    moves o (import_name i l) = moved_0 6 i (lit< tt) (omega arith) l (inl refl)
    moves o (import_batch_field (named i) l) = s.moved 6 i 4 (lit< tt) (omega arith) l (inr (inl refl))
    moves o (import_batch_field (indexed i) l) = s.moved 7 i 4 (lit< tt) (omega arith) l (inl refl)
    moves o (import_batch_field (anonymous i) l) = s.moved 8 i 4 (lit< tt) (omega arith) l (inl refl)
    moves o (entry-name i l) = moved_0 4 i (lit< tt) (omega arith) l (inl refl)
    moves o (entry_indexed i l) = s.moved 4 i 4 (lit< tt) (omega arith) l (inr (inl refl))
    moves o (entry_anonymous i l) = s.moved 4 i 12 (lit< tt) (omega arith) l (inr (inr (inl refl)))

    stays : (o : ℕ) → Plain F o → word M (base + o) ≡ word F o
    unfolding tables count pointed with_columns ClearOf
    stays o handler-tag =
        word_is F M base on_unresolved_segment_tag
        (λ k h. s.header-plain (on_unresolved_segment_tag + k) (omega arith) ((λ i. absurd (omega (arith, i))), λ j g i. absurd (omega (arith, i))))
    stays o (table-count n l) = count_is m laid low s n (omega arith)
    stays o (export_tag i l) = column 1 i 4 (lit< tt) (omega arith) l (lit≤ tt) (inl (lit≤ tt), tt)
    stays o (indexed_tag i l) = column_0 2 i (lit< tt) (omega arith) l (lit≤ tt) tt
    stays o (import_index i l a) = column_0 7 i (lit< tt) (omega arith) l (lit≤ tt) (inr (lit≤ tt), tt)
    stays o (import_tag i l a) = column_0 8 i (lit< tt) (omega arith) l (lit≤ tt) (inr (lit≤ tt), tt)
    stays o (indexed_count i l) =
        column 4 i 8 (lit< tt) (omega arith) l (lit≤ tt) (inl (lit≤ tt), (inl (lit≤ tt), (inr (lit≤ tt), tt)))
    stays o (anonymous_count i l) =
        column 4 i 16 (lit< tt) (omega arith) l (lit≤ tt) (inl (lit≤ tt), (inl (lit≤ tt), (inl (lit≤ tt), tt)))
    stays o (relocation_tag i l) = column_0 5 i (lit< tt) (omega arith) l (lit≤ tt) tt
    stays o (relocation_addend i l) = column 5 i 8 (lit< tt) (omega arith) l (lit≤ tt) tt

    byte_stays : (o : ℕ) → PlainByte F o → M (base + o) ≡ F o
    unfolding tables pointed with_columns Member InPart
    byte_stays o (relocation_kind i l) = s.plain 5 i 4 (lit< tt) (omega arith) l (lit< tt) (λ x a. absurd a)
    byte_stays o (relocation_end i l) = s.plain 5 i 5 (lit< tt) (omega arith) l (lit< tt) (λ x a. absurd a)
    byte_stays o (string_byte_at p q h z i l) = s.strings p q (h, z, i)

    pub viewed : View m M
    viewed =
        record {
          moved = moves;
          kept = stays;
          kept_byte = byte_stays;
          place = λ i l. (r i l).place;
          size = λ i l. (r i l).size;
          kind = λ i l. (r i l).kind;
        }
