-- The header's 18 offsets move; nothing else does.
use Rattle.std.specs.Prelude.{ℕ, ◌+◌, ◌*◌, ◌≤◌, ◌<◌, ◌≡◌, ◌≢◌, List, []}
use Rattle.std.proofs.Math.Path.{ap}
use Rattle.std.proofs.Common.{◌∙◌, lit<, lit≤}
use Rattle.std.proofs.Math.Bool.{true}
use native.Mathlib.Omega.{arith}
use Rattle.std.proofs.Math.Decide.{dec_lt}
use Rattle.window.specs.Memory.{◌⊕◌}
use Rattle.window.specs.Loop.{loop}
use Rattle.window.specs.Within.{In, Four, Low}
use Rattle.window.specs.Mirror.{word, word_same}
use Rattle.layout.specs.Header.{first_rebased}
use Rattle.linker_spec.specs.Rebase.{move_word, move_header}
use Rattle.history.specs.Image.{tables, segments, count, entry}
use Rattle.history.specs.LoadedModule.{Image, base_of, size_of, moved_offset, Area}
use Rattle.history.specs.WellLaid.{Part, header, table, string, table_number, InPart, WellLaid}
use Rattle.history.specs.Steps.Wp.{Memory, Does, SameOutside, does_mono, does_then}
use Rattle.history.specs.Steps.Parts.{sort, part-inside, entry-in_table, apart}
use Rattle.history.specs.Steps.Reading.{plain-sum, four_at}
use Rattle.history.specs.Rebase.Cells.{TurnsMade, cells, moves_word, word-off, Member}
use Rattle.history.specs.Rebase.PartlyRebased.{word_is, PartlyRebased}

-- nothing moved yet in any table
abbrev pub unmoved : ℕ → List ℕ
unmoved n = []

module _ (m : Image) where
  -- the image stands in memory as the file has it
  abbrev pub AsInFile : Memory → Type 0
  AsInFile B = (o : ℕ) → o < size_of m.load_call → B (base_of m.load_call + o) ≡ m.file o

  -- the segments' table is as the file has it
  abbrev pub FileRows : Memory → Type 0
  FileRows M =
      (i k : ℕ) → i < count m.file segments → k < 12
      → M (base_of m.load_call + (entry m.file segments i + k)) ≡ m.file (entry m.file segments i + k)

module _ (m : Image) (laid : WellLaid m) (low : Low (Area m)) where
  abbrev F : ℕ → ℕ
  F = m.file

  abbrev base : ℕ
  base = base_of m.load_call

  abbrev S : ℕ → Type 0
  S = Area m

  abbrev Field : ℕ → ℕ → Type 0
  Field i q = In (base + (0xb0 + 8 * i)) 4 q

  abbrev FieldMoved : Memory → ℕ → Memory → Type 0
  FieldMoved M i N = word N (base + (0xb0 + 8 * i)) ≡ moved_offset base (word M (base + (0xb0 + 8 * i)))

  in_header : (x : ℕ) → x + 4 ≤ 0x138 → (base ⊕ x ≡ base + x) × Four S (base + x)
  in_header x l =
      let h = laid.alone.header-inside in
      let b = plain-sum m laid low x (omega (arith, h)) in (omega (arith, b), four_at m laid low x (omega (arith, h)))

  Moves-fields
      : (M : Memory)
      → Does S (loop (λ i _. move_word true base (base ⊕ (first_rebased + 8 * i))) 0 17 tt) (λ _ N. TurnsMade Field (FieldMoved M) M 17 N) M
  Moves-fields M =
      cells Field (FieldMoved M) M S (λ i _. move_word true base (base ⊕ (first_rebased + 8 * i))) 17 tt
      (λ i j l h q a b. absurd (omega (arith, a, b)))
      (λ i l N L g e. word_same L N (base + (0xb0 + 8 * i)) (λ k h. g (base + (0xb0 + 8 * i) + k) (omega arith, omega arith)) ∙ e)
      (λ j b N l t.
      let h = in_header (0xb0 + 8 * j) (omega arith) in
      rw h.0
      (does_mono S (moves_word S base (base + (0xb0 + 8 * j)) h.1)
      (λ _ L g. (
        g.0
            ∙ ap (moved_offset base) (word-off M N (λ q. (i : ℕ) × (i < j) × Field i q) (base + (0xb0 + 8 * j)) t.kept
            (λ q a c. absurd (omega (arith, a, c.1, c.2)))),
        g.1,
      ))))

  module _ {B : Memory} (fresh : AsInFile m B) where
    header-left
        : (M N : Memory) → SameOutside (In (base + 0x84) 4) B M → TurnsMade Field (FieldMoved M) M 17 N → (o : ℕ) → o < size_of m.load_call
        → (In 0x84 4 o → ⊥) → ((i : ℕ) → i < 17 → In (0xb0 + 8 * i) 4 o → ⊥) → N (base + o) ≡ F o
    header-left M N k t o l n u =
        t.kept (base + o) (λ c. u c.0 c.1 (omega (arith, c.2), omega (arith, c.2)))
        ∙ k (base + o) (λ c. n (omega (arith, c), omega (arith, c)))
        ∙ fresh o l

    past
        : (M N : Memory) → SameOutside (In (base + 0x84) 4) B M → TurnsMade Field (FieldMoved M) M 17 N → (r : Part) (o : ℕ) → header ≢ r → InPart F r o
        → N (base + o) ≡ F o
    unfolding InPart
    past M N k t r o n h =
        let l : 0x138 ≤ o = elim (dec_lt o 0x138) [ yes g ↦ absurd (apart m laid header r o n g h) | no g ↦ omega arith ] in
        header-left M N k t o (part-inside m laid r o h) (λ i. absurd (omega (arith, i))) (λ j g i. absurd (omega (arith, g, i)))

    -- after it the image is at its first stage
    pub header_does : Does S (move_header true base) (λ _ N. PartlyRebased m unmoved N × FileRows m N) B
    unfolding move_header Member tables
    header_does =
        let h = in_header 0x84 (lit≤ tt) in
        rw h.0
        (does_then S (move_word true base (base + 0x84)) _ (moves_word S base (base + 0x84) h.1)
        (λ _ M a.
        does_mono S (Moves-fields M)
        (λ _ N t. (
          record {
            fields =
                λ i l.
                t.done i l
                ∙ ap (moved_offset base)
                (word-off B M (In (base + 0x84) 4) (base + (0xb0 + 8 * i)) a.1 (λ q c d. absurd (omega (arith, c, d)))
                ∙ word_is F B base (0xb0 + 8 * i) (λ k g. fresh (0xb0 + 8 * i + k) (omega (arith, laid.alone.header-inside))));
            header-plain = λ o l u. header-left M N a.1 t o (omega (arith, laid.alone.header-inside)) u.0 u.1;
            wide = λ n x c. absurd c;
            moved = λ n i x l z g c. absurd c;
            plain =
                λ n i k l z g j c.
                past M N a.1 t (table n) (entry F (table_number n) i + k) (λ y. absurd (omega (arith, ap sort y))) (entry-in_table F n i k l g j);
            strings = λ p o g. past M N a.1 t (string p) o (λ y. absurd (omega (arith, ap sort y))) g;
          },
          λ i k l g.
              past M N a.1 t (table 0) (entry F segments i + k) (λ y. absurd (omega (arith, ap sort y))) (entry-in_table F 0 i k (lit< tt) l g),
        ))))
