-- What a rebased module shows to the steps that only read it: the bytes that they read, and what they say.
use Rattle.std.specs.Prelude.{ℕ, ◌+◌, ◌<◌, ◌≡◌, ◌≢◌}
use Rattle.std.proofs.Common.{sym, ap, ◌∙◌, arith}
use Rattle.window.specs.Mirror.{word, word_same}
use Rattle.layout.specs.Header.{module_name_offset, on_unresolved_segment_tag}
use Rattle.layout.specs.Format.{segment_type}
use Rattle.history.specs.Image.{segments, named_exports, indexed_exports, module_entries, externals, named_imports, indexed_imports, anonymous_imports, count, entry, file_segment}
use Rattle.history.specs.LoadedModule.{Image, base_of, moved_offset, segment_place}
use Rattle.history.specs.Imports.{Import, indexed, anonymous, import_entry, IsImport}
use Rattle.history.specs.WellLaid.{table_number, Pointer, InString, Asked}
use Rattle.history.specs.Steps.Wp.{Memory}

-- the words that a rebase moves and later steps read: in the header, the name's and those of the nine tables they use; the tables' pointers
pub data Pointing (F : ℕ → ℕ) : ℕ → Type 0 where
  name-field : Pointing F module_name_offset
  table-field : (n : ℕ) → n < 9 → Pointing F (table_number n).field
  export_name_field : (i : ℕ) → i < count F named_exports → Pointing F (entry F named_exports i)
  import_name : (i : ℕ) → i < count F named_imports → Pointing F (entry F named_imports i)
  import_batch_field : (i : Import) → IsImport F i → Pointing F (import_entry F i + 4)
  entry-name : (j : ℕ) → j < count F module_entries → Pointing F (entry F module_entries j)
  entry_indexed : (j : ℕ) → j < count F module_entries → Pointing F (entry F module_entries j + 4)
  entry_anonymous : (j : ℕ) → j < count F module_entries → Pointing F (entry F module_entries j + 12)

-- the words that stay as the file has them
pub data Plain (F : ℕ → ℕ) : ℕ → Type 0 where
  handler-tag : Plain F on_unresolved_segment_tag
  table-count : (n : ℕ) → n < 9 → Plain F ((table_number n).field + 4)
  export_tag : (i : ℕ) → i < count F named_exports → Plain F (entry F named_exports i + 4)
  indexed_tag : (i : ℕ) → i < count F indexed_exports → Plain F (entry F indexed_exports i)
  import_index : (i : ℕ) → i < count F indexed_imports → Asked F (indexed i) → Plain F (entry F indexed_imports i)
  import_tag : (i : ℕ) → i < count F anonymous_imports → Asked F (anonymous i) → Plain F (entry F anonymous_imports i)
  indexed_count : (j : ℕ) → j < count F module_entries → Plain F (entry F module_entries j + 8)
  anonymous_count : (j : ℕ) → j < count F module_entries → Plain F (entry F module_entries j + 16)
  relocation_tag : (j : ℕ) → j < count F externals → Plain F (entry F externals j)
  relocation_addend : (j : ℕ) → j < count F externals → Plain F (entry F externals j + 8)

-- and the bytes that do
pub data PlainByte (F : ℕ → ℕ) : ℕ → Type 0 where
  relocation_kind : (j : ℕ) → j < count F externals → PlainByte F (entry F externals j + 4)
  relocation_end : (j : ℕ) → j < count F externals → PlainByte F (entry F externals j + 5)
  string_byte_at : (p o : ℕ) → Pointer F p → p ≢ 0 → InString F p o → o < p + 512 → PlainByte F o

-- the offsets of all of them, and of the segments' entries
pub data Seen (F : ℕ → ℕ) : ℕ → Type 0 where
  pointing : (o k : ℕ) → k < 4 → Pointing F o → Seen F (o + k)
  plain : (o k : ℕ) → k < 4 → Plain F o → Seen F (o + k)
  byte : (o : ℕ) → PlainByte F o → Seen F o
  segment : (i k : ℕ) → k < 12 → i < count F segments → Seen F (entry F segments i + k)

module _ (m : Image) where
  abbrev F : ℕ → ℕ
  F = m.file

  abbrev base : ℕ
  base = base_of m.load_call

  -- the module as rebasing leaves it, for those who read it
  pub record View (M : Memory) : Type 0 where
    pub moved : (o : ℕ) → Pointing F o → word M (base + o) ≡ moved_offset base (word F o)
    pub kept : (o : ℕ) → Plain F o → word M (base + o) ≡ word F o
    pub kept_byte : (o : ℕ) → PlainByte F o → M (base + o) ≡ F o
    pub place : (i : ℕ) → i < count F segments → word M (base + entry F segments i) ≡ segment_place m i
    pub size : (i : ℕ) → i < count F segments → word M (base + (entry F segments i + 4)) ≡ (file_segment F i).size
    pub kind : (i : ℕ) → i < count F segments → segment_type (word M (base + (entry F segments i + 8))) ≡ (file_segment F i).kind

  -- it is a matter of the bytes seen
  pub four : (M N : Memory) (o : ℕ) → ((k : ℕ) → k < 4 → M (base + (o + k)) ≡ N (base + (o + k))) → word M (base + o) ≡ word N (base + o)
  four M N o h = word_same M N (base + o) (λ k l. let e : base + o + k ≡ base + (o + k) = omega arith in rw e (h k l))

  pub view_agree : (M N : Memory) → ((o : ℕ) → Seen F o → M (base + o) ≡ N (base + o)) → View M → View N
  view_agree M N g v =
      record {
        moved = λ o p. sym (four M N o (λ k l. g (o + k) (pointing o k l p))) ∙ v.moved o p;
        kept = λ o p. sym (four M N o (λ k l. g (o + k) (plain o k l p))) ∙ v.kept o p;
        kept_byte = λ o p. sym (g o (byte o p)) ∙ v.kept_byte o p;
        place = λ i l. sym (four M N (entry F segments i) (λ k j. g (entry F segments i + k) (segment i k (omega arith) l))) ∙ v.place i l;
        size =
            λ i l.
            sym
            (four M N (entry F segments i + 4)
            (λ k j. let e : entry F segments i + 4 + k ≡ entry F segments i + (4 + k) = omega arith in rw e
            (g (entry F segments i + (4 + k)) (segment i (4 + k) (omega arith) l))))
            ∙ v.size i l;
        kind =
            λ i l.
            ap segment_type
            (sym
            (four M N (entry F segments i + 8)
            (λ k j. let e : entry F segments i + 8 + k ≡ entry F segments i + (8 + k) = omega arith in rw e
            (g (entry F segments i + (8 + k)) (segment i (8 + k) (omega arith) l)))))
            ∙ v.kind i l;
      }
