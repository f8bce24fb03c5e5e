-- Internal relocations write nothing but internal relocated words, so the view stays.
use Prim.Native.Nat.{ℕ, ◌+◌, ◌≤◌, ◌<◌}
use Rattle.std.specs.Prelude.{if◌then◌else◌, ◌≡◌, Option, Some, None}
use Rattle.std.proofs.Math.Path.{refl}
use Rattle.std.proofs.Common.{sym, ◌∙◌, lit<, lit≤}
use native.Mathlib.Omega.{arith}
use Rattle.std.proofs.Math.Decide.{dec_lt}
use Rattle.std.proofs.Math.Dec.{ltb}
use borrow.Author.Tests.{lt-ltb, le-ltb}
use Rattle.window.specs.Memory.{◌⊕◌}
use Rattle.window.specs.Access.{Prog, get8, get32}
use Rattle.window.specs.Within.{In, Low}
use Rattle.window.specs.Mirror.{word, put4-off}
use Rattle.layout.specs.Header.{internal_relocation_table_offset, internal_relocation_num, relocation_entry_size}
use Rattle.layout.specs.Format.{relocation_type, tag_segment, tag_offset}
use Rattle.layout.specs.Relocation.Relocation.{relocated_word, patch, apply_relocation}
use Rattle.layout.specs.Segments.{field, entry_at, segment, address_in}
use Rattle.layout.specs.declared.format.Segment.{Segment}
use Rattle.linker_spec.specs.Rebase.{at_offset}
use Rattle.linker_spec.specs.Relocation.{write_place, relocate_from, relocate_into, apply_internal_relocation, apply_internal_relocations}
use Rattle.history.specs.Image.{tables, segments, internals, start, count, entry, file_segment, tag, kind, symbol_segment, addend}
use Rattle.history.specs.LoadedModule.{Image, base_of, size_of, moved_offset, segment_place, old_place, placed_segment, address, Area}
use Rattle.history.specs.WellLaid.{table, internal, WordAt, Writes, WellLaid}
use Rattle.history.specs.Steps.Wp.{Memory, Does, SameOutside, ReadsValue, does_mono, does_ret, does_read, does_loop, ends_privileged, reads_get8, reads_get32}
use Rattle.history.specs.Steps.View.{View, view_agree}
use Rattle.history.specs.Steps.Parts.{touched_other, read_offset, read_offset_no_word, image_area, entry-in_table}
use Rattle.history.specs.Steps.Reading.{plain-sum, four_at, entry_at_lem, reads_segment}
use Rattle.history.specs.Steps.Batch.{Sort, sort, writes, writes_not}
use Rattle.history.specs.Rebase.Cells.{Member}
use Rattle.history.specs.Rebase.PartlyRebased.{word_is, PartlyRebased}
use Rattle.history.specs.Rebase.Fields.{entry-inside, reads_start, reads_count}
use Rattle.history.specs.Rebase.Tables.{with_columns}
use Rattle.history.specs.Rebase.Viewed.{pointed}

-- the bytes of the internal relocated words
abbrev pub InternalByte : Image → ℕ → Type 0
InternalByte m q = (i : ℕ) × (p : ℕ) × WordAt m (internal i) p × In p 4 q

module _ (m : Image) (laid : WellLaid m) (low : Low (Area m)) where
  abbrev F : ℕ → ℕ
  F = m.file

  abbrev base : ℕ
  base = base_of m.load_call

  abbrev S : ℕ → Type 0
  S = Area m

  inner_view : {M N : Memory} → View m M → SameOutside (InternalByte m) M N → View m N
  inner_view {M} {N} v k =
      view_agree m M N (λ o h. sym (k (base + o) (λ c. read_offset_no_word m laid o (read_offset F o h) (internal c.0) c.1 c.2 c.3))) v

  module _ {M : Memory} (s : PartlyRebased m pointed M) (v : View m M) where
    -- entries of the internal table are as the file has them
    plain_byte
        : {N : Memory} → SameOutside (InternalByte m) M N → (j k : ℕ) → j < count F internals → k < 12
        → N (base + (entry F internals j + k)) ≡ F (entry F internals j + k)
    unfolding tables pointed with_columns Member
    plain_byte n j k l h =
        n (base + (entry F internals j + k))
        (λ c.
        laid.in_place_lem.words-off (internal c.0) c.1 c.2 (table 10) (entry F internals j + k) (entry-in_table F 10 j k (lit< tt) l h)
        (touched_other F 10 _ refl) c.3)
        ∙ s.plain 10 j k (lit< tt) (omega arith) l h (λ x a. absurd a)

    module _ {N : Memory} (n : SameOutside (InternalByte m) M N) (j : ℕ) (l : j < count F internals) where
      inside : entry F internals j + 12 ≤ size_of m.load_call
      unfolding tables
      inside = entry-inside m laid low 10 j (lit< tt) l

      plus : (k : ℕ) → k < 12 → base + entry F internals j ⊕ k ≡ base + (entry F internals j + k)
      plus k h = let b = plain-sum m laid low (entry F internals j + k) (omega (arith, inside)) in omega (arith, b)

      reads_byte : (k : ℕ) → k < 12 → ReadsValue S (get8 (base + entry F internals j ⊕ k)) (F (entry F internals j + k)) N
      reads_byte k h =
          rw (plus k h) (reads_get8 S _ (image_area m laid (entry F internals j + k) (omega (arith, inside))) (plain_byte n j k l h))

      word-plain : (x : ℕ) → x + 4 ≤ 12 → word N (base + (entry F internals j + x)) ≡ word F (entry F internals j + x)
      word-plain x h =
          word_is F N base (entry F internals j + x)
          (λ k g.
          let e : entry F internals j + x + k ≡ entry F internals j + (x + k) = omega arith in rw e (plain_byte n j (x + k) l (omega arith)))

      reads_tag : ReadsValue S (get32 (base + entry F internals j)) (tag F internals j) N
      unfolding tag
      reads_tag =
          let e : entry F internals j + 0 ≡ entry F internals j = omega arith in
          reads_get32 S _ (four_at m laid low (entry F internals j) (omega (arith, inside))) (rw e at (word-plain 0 (lit≤ tt)))

      reads_kind : ReadsValue S (get8 (base + entry F internals j ⊕ 4)) (kind F internals j) N
      unfolding kind
      reads_kind = reads_byte 4 (lit< tt)

      reads_symbol : ReadsValue S (get8 (base + entry F internals j ⊕ 5)) (symbol_segment F j) N
      unfolding symbol_segment
      reads_symbol = reads_byte 5 (lit< tt)

      reads_addend : ReadsValue S (get32 (base + entry F internals j ⊕ 8)) (addend F internals j) N
      unfolding addend
      reads_addend =
          rw (plus 8 (lit< tt))
          (reads_get32 S _ (four_at m laid low (entry F internals j + 8) (omega (arith, inside))) (word-plain 8 (lit≤ tt)))

      -- the write itself, where there is one
      writes_inner
          : (p d a f : ℕ) → (Writes m (kind F internals j) → WordAt m (internal j) p)
          → Does S (apply_relocation p (relocation_type (kind F internals j)) d a f) (λ _ L. SameOutside (InternalByte m) M L) N
      unfolding apply_relocation patch
      writes_inner p d a f h = go (sort (relocation_type (kind F internals j)))
        where
          go
              : Sort (relocation_type (kind F internals j))
              → Does S (patch p (relocated_word (relocation_type (kind F internals j)) d a f)) (λ _ L. SameOutside (InternalByte m) M L) N
          go (writes g) =
              let w = h (g 0 0 0) in
              let u = g d a f in
              rw u.1
              (ends_privileged S p u.0 (λ k i. laid.in_place_lem.words_inside_lem (internal j) p w (p + k) (omega arith, omega arith))
              (λ q o. put4-off N p u.0 q (λ i. o (j, p, w, i)) ∙ n q o))
          go (writes_not g) = rw (g d a f) (does_ret S n)

      abbrev t : ℕ
      t = tag F internals j

      abbrev placed : ℕ → Segment
      placed i = at_offset (file_segment F i) (segment_place m i)

      address_is
          : tag_segment t < count F segments → tag_offset t < (file_segment F (tag_segment t)).size
          → address m t ≡ Some (segment_place m (tag_segment t) ⊕ tag_offset t)
      unfolding address placed_segment address_in
      address_is a b = rw (lt-ltb (tag_segment t) (count F segments) a, lt-ltb (tag_offset t) (file_segment F (tag_segment t)).size b) refl

      abbrev into : Option Segment → Prog (Unit {0})
      into x = relocate_into base (old_place m) x t (kind F internals j) (symbol_segment F j) (addend F internals j)

      relocates_inner : Does S (into (placed_segment m (tag_segment t))) (λ _ L. SameOutside (InternalByte m) M L) N
      unfolding placed_segment relocate_into relocate_from WordAt
      relocates_inner = found (dec_lt (tag_segment t) (count F segments))
        where
          found
              : Dec (tag_segment t < count F segments)
              → Does S (into (if ltb (tag_segment t) (count F segments) then Some (placed (tag_segment t)) else None)) (λ _ L. SameOutside (InternalByte m) M L) N
          found (no a) = rw (le-ltb (tag_segment t) (count F segments) (omega arith)) (does_ret S n)
          found (yes a) = rw (lt-ltb (tag_segment t) (count F segments) a) (usable (dec_lt (tag_offset t) (file_segment F (tag_segment t)).size))
            where
              resolved : ℕ
              resolved = segment_place m (tag_segment t) ⊕ tag_offset t

              target : ℕ
              target = write_place (file_segment F (tag_segment t)).kind (old_place m) (tag_offset t) resolved

              from : Option Segment → Prog (Unit {0})
              from x = relocate_from x target (kind F internals j) (addend F internals j) resolved

              symbol
                  : tag_offset t < (file_segment F (tag_segment t)).size → Dec (symbol_segment F j < count F segments)
                  → Does S (from (if ltb (symbol_segment F j) (count F segments) then Some (placed (symbol_segment F j)) else None))
                  (λ _ L. SameOutside (InternalByte m) M L) N
              symbol b (no c) = rw (le-ltb (symbol_segment F j) (count F segments) (omega arith)) (does_ret S n)
              symbol b (yes c) =
                  rw (lt-ltb (symbol_segment F j) (count F segments) c)
                  (writes_inner target (addend F internals j) (segment_place m (symbol_segment F j)) resolved
                  (λ w. (l, w, c, resolved, address_is a b, refl)))

              usable
                  : Dec (tag_offset t < (file_segment F (tag_segment t)).size)
                  → Does S (into (Some (placed (tag_segment t)))) (λ _ L. SameOutside (InternalByte m) M L) N
              usable (no b) = rw (le-ltb (tag_offset t) (file_segment F (tag_segment t)).size (omega arith)) (does_ret S n)
              usable (yes b) =
                  rw (lt-ltb (tag_offset t) (file_segment F (tag_segment t)).size b)
                  (does_read S (segment base (symbol_segment F j)) _ (placed_segment m (symbol_segment F j))
                  (reads_segment m laid low (inner_view v n) (symbol_segment F j)) (symbol b (dec_lt (symbol_segment F j) (count F segments))))

      turn : Does S (apply_internal_relocation base (old_place m) (base + entry F internals j)) (λ _ L. SameOutside (InternalByte m) M L) N
      unfolding apply_internal_relocation
      turn =
          does_read S (get32 (base + entry F internals j)) _ t reads_tag
          (does_read S (get8 (base + entry F internals j ⊕ 4)) _ (kind F internals j) reads_kind
          (does_read S (get8 (base + entry F internals j ⊕ 5)) _ (symbol_segment F j) reads_symbol
          (does_read S (get32 (base + entry F internals j ⊕ 8)) _ (addend F internals j) reads_addend
          (does_read S (segment base (tag_segment t)) _ (placed_segment m (tag_segment t)) (reads_segment m laid low (inner_view v n) (tag_segment t))
          relocates_inner))))

    pub internal_does : Does S (apply_internal_relocations base (old_place m)) (λ _ N. View m N × SameOutside (InternalByte m) M N) M
    unfolding apply_internal_relocations tables
    internal_does =
        does_read S (field base internal_relocation_table_offset) _ (moved_offset base (start F internals)) (reads_start m laid low s 10 (lit< tt))
        (does_read S (field base internal_relocation_num) _ (count F internals) (reads_count m laid low s 10 (lit< tt))
        (does_mono S
        (does_loop S {A = Unit {0}}
        (λ i _. apply_internal_relocation base (old_place m) (entry_at (moved_offset base (start F internals)) i relocation_entry_size))
        (λ _ _ N. SameOutside (InternalByte m) M N) 0 (count F internals) tt M
        (λ j b N g h n.
        let l : j < count F internals = omega arith in
        rw (entry_at_lem m laid low 10 j (lit< tt) l (omega (arith, inside n j l))) (turn n j l)) (λ q o. refl))
        (λ _ N n. (inner_view v n, n))))
