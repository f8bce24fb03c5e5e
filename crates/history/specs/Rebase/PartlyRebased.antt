-- The image between the steps of a rebase: its header moved, and of some tables the pointers.
use Rattle.std.specs.Prelude.{ℕ, ◌+◌, ◌*◌, ◌≤◌, ◌<◌, ◌≡◌, refl, ◌≢◌, List}
use Rattle.std.proofs.Common.{sym, ◌∙◌, arith}
use Rattle.std.proofs.Math.Path.{ap}
use Rattle.std.proofs.Math.Decide.{ℕ_discrete}
use Rattle.window.specs.Memory.{◌⊕◌}
use Rattle.window.specs.Bytes.{join-at}
use Rattle.window.specs.Within.{In, Low}
use Rattle.window.specs.Mirror.{word}
use Rattle.layout.specs.Format.{segment_type}
use Rattle.layout.specs.Segments.{field}
use Rattle.history.specs.Image.{segments, count, entry, file_segment}
use Rattle.history.specs.LoadedModule.{Image, base_of, moved_offset, segment_place, Area}
use Rattle.history.specs.WellLaid.{Part, header, table, string, table_number, InPart, WellLaid}
use Rattle.history.specs.Steps.Wp.{Memory, ReadsValue, reads_get32}
use Rattle.history.specs.Steps.View.{four}
use Rattle.history.specs.Steps.Parts.{sort, number, entry-in_table}
use Rattle.history.specs.Steps.Reading.{plain-sum, four_at}
use Rattle.history.specs.Rebase.Cells.{Member}

-- a word of the image as the file has it, by its bytes
pub word_is : (F : ℕ → ℕ) (M : Memory) (b o : ℕ) → ((k : ℕ) → k < 4 → M (b + (o + k)) ≡ F (o + k)) → word M (b + o) ≡ word F o
unfolding word
word_is F M b o h =
    join-at M (λ k. F (o + k)) (b + o) (λ k l. let e : b + o + k ≡ b + (o + k) = omega arith in rw e (h k l))
    ∙ sym (join-at F (λ k. F (o + k)) o (λ k l. refl))

module _ (m : Image) where
  abbrev F : ℕ → ℕ
  F = m.file

  abbrev base : ℕ
  base = base_of m.load_call

  -- an offset of the header in none of the 18 words that move
  abbrev pub Unmoved : ℕ → Type 0
  Unmoved o = (In 0x84 4 o → ⊥) × ((i : ℕ) → i < 17 → In (0xb0 + 8 * i) 4 o → ⊥)

  -- ζ n are the columns of table n that are moved; the segments' table is told apart
  pub record PartlyRebased (ζ : ℕ → List ℕ) (M : Memory) : Type 0 where
    pub fields : (i : ℕ) → i < 17 → word M (base + (0xb0 + 8 * i)) ≡ moved_offset base (word F (0xb0 + 8 * i))
    pub header-plain : (o : ℕ) → o < 0x138 → Unmoved o → M (base + o) ≡ F o
    pub wide : (n x : ℕ) → Member x (ζ n) → x + 4 ≤ (table_number n).width
    pub moved
        : (n i x : ℕ) → n < 12 → n ≢ 0 → i < count F (table_number n) → Member x (ζ n)
        → word M (base + (entry F (table_number n) i + x)) ≡ moved_offset base (word F (entry F (table_number n) i + x))
    pub plain
        : (n i k : ℕ) → n < 12 → n ≢ 0 → i < count F (table_number n) → k < (table_number n).width → ((x : ℕ) → Member x (ζ n) → In x 4 k → ⊥)
        → M (base + (entry F (table_number n) i + k)) ≡ F (entry F (table_number n) i + k)
    pub strings : (p o : ℕ) → InPart F (string p) o → M (base + o) ≡ F o

  -- the header alone, as every stage has it
  pub record Headed (M : Memory) : Type 0 where
    pub fields : (i : ℕ) → i < 17 → word M (base + (0xb0 + 8 * i)) ≡ moved_offset base (word F (0xb0 + 8 * i))
    pub header-plain : (o : ℕ) → o < 0x138 → Unmoved o → M (base + o) ≡ F o

  pub headed_same : {M N : Memory} → ((o : ℕ) → o < 0x138 → N (base + o) ≡ M (base + o)) → Headed M → Headed N
  headed_same {M} {N} g h =
      record {
        fields = λ i l. four m N M (0xb0 + 8 * i) (λ k j. g (0xb0 + 8 * i + k) (omega arith)) ∙ h.fields i l;
        header-plain = λ o l u. g o l ∙ h.header-plain o l u;
      }

  -- segment i in its place
  pub record Row (i : ℕ) (M : Memory) : Type 0 where
    pub place : word M (base + entry F segments i) ≡ segment_place m i
    pub size : word M (base + (entry F segments i + 4)) ≡ (file_segment F i).size
    pub kind : segment_type (word M (base + (entry F segments i + 8))) ≡ (file_segment F i).kind

  abbrev pub Rows : Memory → Type 0
  Rows M = (i : ℕ) → i < count F segments → Row i M

  -- it is a matter of the entry's bytes
  pub row_same
      : (i : ℕ) (M N : Memory) → ((k : ℕ) → k < 12 → N (base + (entry F segments i + k)) ≡ M (base + (entry F segments i + k))) → Row i M
      → Row i N
  row_same i M N h r =
      record {
        place = four m N M (entry F segments i) (λ k l. h k (omega arith)) ∙ r.place;
        size = four m N M (entry F segments i + 4) (λ k l. at4 k l) ∙ r.size;
        kind = ap segment_type (four m N M (entry F segments i + 8) (λ k l. at8 k l)) ∙ r.kind;
      }
    where
      at4 : (k : ℕ) → k < 4 → N (base + (entry F segments i + 4 + k)) ≡ M (base + (entry F segments i + 4 + k))
      at4 k l = let e : entry F segments i + 4 + k ≡ entry F segments i + (4 + k) = omega arith in rw e (h (4 + k) (omega arith))

      at8 : (k : ℕ) → k < 4 → N (base + (entry F segments i + 8 + k)) ≡ M (base + (entry F segments i + 8 + k))
      at8 k l = let e : entry F segments i + 8 + k ≡ entry F segments i + (8 + k) = omega arith in rw e (h (8 + k) (omega arith))

  -- all parts but table t are the same
  abbrev pub Others : ℕ → Memory → Memory → Type 0
  Others t M N = (r : Part) (o : ℕ) → r ≢ table t → InPart F r o → N (base + o) ≡ M (base + o)

  -- a step that writes in table t alone: what becomes of that table is to be shown
  pub partly_rebased_more
      : (t : ℕ) (ζ ξ : ℕ → List ℕ) (M N : Memory) → ((n : ℕ) → n ≢ t → ξ n ≡ ζ n) → Others t M N
      → ((x : ℕ) → Member x (ξ t) → x + 4 ≤ (table_number t).width)
      → ((i x : ℕ) → t ≢ 0 → i < count F (table_number t) → Member x (ξ t)
      → word N (base + (entry F (table_number t) i + x)) ≡ moved_offset base (word F (entry F (table_number t) i + x)))
      → ((i k : ℕ) → t ≢ 0 → i < count F (table_number t) → k < (table_number t).width → ((x : ℕ) → Member x (ξ t) → In x 4 k → ⊥)
      → N (base + (entry F (table_number t) i + k)) ≡ F (entry F (table_number t) i + k))
      → PartlyRebased ζ M → PartlyRebased ξ N
  unfolding InPart
  partly_rebased_more t ζ ξ M N e o w f g s =
      record {
        fields = λ i l. four m N M (0xb0 + 8 * i) (λ k h. o header (0xb0 + 8 * i + k) no_header (omega arith)) ∙ s.fields i l;
        header-plain = λ x l u. o header x no_header (omega arith) ∙ s.header-plain x l u;
        wide = λ n x a. wides n x a (ℕ_discrete n t);
        moved = λ n i x l z h a. moves n i x l z h a (ℕ_discrete n t);
        plain = λ n i k l z h j a. plains n i k l z h j a (ℕ_discrete n t);
        strings = λ p x h. o (string p) x (λ z. absurd (omega (arith, ap sort z))) h ∙ s.strings p x h;
      }
    where
      no_header : header ≢ table t
      no_header z = absurd (omega (arith, ap sort z))

      wides : (n x : ℕ) → Member x (ξ n) → Dec (n ≡ t) → x + 4 ≤ (table_number n).width
      wides n x a (yes q) = rw q (w x (rw q at a))
      wides n x a (no q) = s.wide n x (rw (e n q) at a)

      moves
          : (n i x : ℕ) → n < 12 → n ≢ 0 → i < count F (table_number n) → Member x (ξ n) → Dec (n ≡ t)
          → word N (base + (entry F (table_number n) i + x)) ≡ moved_offset base (word F (entry F (table_number n) i + x))
      moves n i x l z h a (yes q) = rw q (f i x (rw q at z) (rw q at h) (rw q at a))
      moves n i x l z h a (no q) =
          let b : Member x (ζ n) = rw (e n q) at a in
          let v = s.wide n x b in
          four m N M (entry F (table_number n) i + x)
          (λ k g.
          let c : entry F (table_number n) i + x + k ≡ entry F (table_number n) i + (x + k) = omega arith in
          rw c (o (table n) (entry F (table_number n) i + (x + k)) (λ y. q (ap number y)) (entry-in_table F n i (x + k) l h (omega (arith, v)))))
          ∙ s.moved n i x l z h b

      plains
          : (n i k : ℕ) → n < 12 → n ≢ 0 → i < count F (table_number n) → k < (table_number n).width → ((x : ℕ) → Member x (ξ n) → In x 4 k → ⊥)
          → Dec (n ≡ t) → N (base + (entry F (table_number n) i + k)) ≡ F (entry F (table_number n) i + k)
      plains n i k l z h j a (yes q) = rw q (g i k (rw q at z) (rw q at h) (rw q at j) (rw q at a))
      plains n i k l z h j a (no q) =
          o (table n) (entry F (table_number n) i + k) (λ y. q (ap number y)) (entry-in_table F n i k l h j)
          ∙ s.plain n i k l z h j (rw (e n q) at a)

  module _ (laid : WellLaid m) (low : Low (Area m)) where
    -- a word of the header
    pub header_reads : {M : Memory} (x : ℕ) {u : ℕ} → x + 4 ≤ 0x138 → word M (base + x) ≡ u → ReadsValue (Area m) (field base x) u M
    unfolding field
    header_reads x h e =
        let i = laid.alone.header-inside in
        let b = plain-sum m laid low x (omega (arith, i)) in
        let z : base ⊕ x ≡ base + x = omega (arith, b) in
        rw z (reads_get32 (Area m) (base + x) (four_at m laid low x (omega (arith, i))) e)
