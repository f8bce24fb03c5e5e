-- From the code's tests to `segment_row`; where it stands, a lookup gives the three words there and leaves no touch.
use Rattle.std.proofs.Common.{◌≡◌, ℕ, ◌+◌, ◌%◌, ◌^◌, ◌<◌, ◌≤◌, ltb, List, length, sym, refl, ap, ◌∙◌, arith, lit<, ltb-true, le-ltb, lt-ltb, Option, Some, None}
use Rattle.window.specs.Memory.{◌⊕◌}
use Rattle.window.specs.Word.{word_in}
use Rattle.window.specs.Trace.{run_t}
use Rattle.window.specs.Row.{row_of, Stands, not-elsewhere, row-tested, row_stands, stands_part, stands_first}
use Rattle.window.proofs.row.Laws.{word-there}
use Rattle.layout.specs.Header.{segment_num, segment_table_offset, segment_entry_size}
use Rattle.layout.specs.Format.{segment_type}
use Rattle.layout.specs.Segments.{entry_at, segment}
use Rattle.layout.specs.SegmentRow.{entry_row, segment_row}
use Rattle.layout.specs.declared.format.SegmentType.{SegmentType}
use Rattle.layout.proofs.Accesses.{field_read, entry_read, segment-there}

module _ (at : ℕ) (w : List ℕ) (base i : ℕ) where
  -- the code's tests

  module _ {x : ℕ} {r : Option ℕ} (ex : x ≡ base ⊕ segment_table_offset) (e : r ≡ row_of at (length w) x 8) where
    head-row : entry_row at w i r ≡ segment_row at w base i
    unfolding segment_row
    head-row = rw (e, ex)

    pub head-elsewhere : r ≡ None → None ≡ segment_row at w base i
    unfolding entry_row
    head-elsewhere f = rw (f, entry_row) at head-row

    module _ {head : ℕ} (there : r ≡ Some head) where
      pub head_stands : Stands at (length w) x 8 head
      head_stands = row_stands at (length w) x 8 (sym e ∙ there)

      module _ {count : ℕ} (ec : count ≡ word_in w (head + 4)) where
        pub none_such : count ≤ i → None ≡ segment_row at w base i
        unfolding entry_row
        none_such l = rw (there, entry_row, ← ec, le-ltb i count l) at head-row

        pub entry_row_lem
            : i < count → {table entry : ℕ} {q : Option ℕ} → table ≡ word_in w head → entry ≡ entry_at table i segment_entry_size
            → q ≡ row_of at (length w) entry 12 → q ≡ segment_row at w base i
        unfolding entry_row
        entry_row_lem l et ee eq = rw (eq, ee, et) (rw (there, entry_row, ← ec, lt-ltb i count l) at head-row)

  -- what stands where

  module _ {s : ℕ} (found : segment_row at w base i ≡ Some s) where
    HeadAt : ℕ → Type 0
    HeadAt head =
        Stands at (length w) (base ⊕ segment_table_offset) 8 head × (i < word_in w (head + 4))
        × Stands at (length w) (entry_at (word_in w head) i segment_entry_size) 12 s

    head_at : (head : ℕ) × HeadAt head
    unfolding segment_row entry_row HeadAt
    head_at = go (row_of at (length w) (base ⊕ segment_table_offset) 8) refl found
      where
        go : (r : Option ℕ) → row_of at (length w) (base ⊕ segment_table_offset) 8 ≡ r → entry_row at w i r ≡ Some s → (head : ℕ) × HeadAt head
        go (Some head) e f =
            let t = row-tested (ltb i (word_in w (head + 4))) (row_of at (length w) (entry_at (word_in w head) i segment_entry_size) 12) f in (
              head,
              (
                row_stands at (length w) (base ⊕ segment_table_offset) 8 e,
                ltb-true i (word_in w (head + 4)) t.0,
                row_stands at (length w) (entry_at (word_in w head) i segment_entry_size) 12 t.1,
              ),
            )
        go None e f = absurd (not-elsewhere f)

    pub segment-inside : s + 12 ≤ length w
    unfolding HeadAt
    segment-inside = head_at.1.2.2

    pub segment_in
        : (t : List ℕ) {offset size word : ℕ} {kind : SegmentType} → offset ≡ word_in w s → size ≡ word_in w (s + 4)
        → word ≡ word_in w (s + 8) → kind ≡ segment_type word
        → (Some (record { offset = offset; size = size; kind = kind }), (w, t)) ≡ run_t at (segment base i) (w, t)
    unfolding HeadAt
    segment_in t eo es ew ek =
        let head = head_at.0 in
        let h = head_at.1 in
        let n = length w in
        let x = base ⊕ segment_table_offset in
        let y = entry_at (word_in w head) i segment_entry_size in
        let next : (x + 4) % 2 ^ 32 ≡ base ⊕ segment_num = omega arith in
        rw (eo, es)
        (segment-there at base i (w, t)
        (field_read at base segment_num (w, t) next (word-there at w ((x + 4) % 2 ^ 32) (head + 4) (stands_part at n x 8 head 4 4 h.0 (lit< tt) (lit< tt)) t))
        h.1
        (field_read at base segment_table_offset (w, t) refl (word-there at w x head (stands_first at n x 8 head 4 h.0 (lit< tt)) t))
        refl
        (entry_read at y (w, t) (word-there at w y s (stands_first at n y 12 s 4 h.2 (lit< tt)) t)
        refl (word-there at w ((y + 4) % 2 ^ 32) (s + 4) (stands_part at n y 12 s 4 4 h.2 (lit< tt) (lit< tt)) t)
        refl (word-there at w ((y + 8) % 2 ^ 32) (s + 8) (stands_part at n y 12 s 8 4 h.2 (lit< tt) (lit< tt)) t)
        (ek ∙ ap segment_type ew)))
