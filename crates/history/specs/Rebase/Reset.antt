-- The external reset: every external word gets the handler's address and every mark is cleared; nothing else changes.
use Rattle.std.specs.Prelude.{ℕ, ◌+◌, ◌≤◌, ◌<◌, ◌≡◌, ◌⊎◌, Option, Some, None}
use Rattle.std.proofs.Math.Path.{refl}
use Rattle.std.proofs.Common.{sym, ◌∙◌, inl, inr, lit<, ne_eqb}
use native.Mathlib.Omega.{arith}
use Rattle.window.specs.Memory.{◌⊕◌}
use Rattle.window.specs.Bytes.{byte_of}
use Rattle.window.specs.Access.{get8, get32}
use Rattle.window.specs.Within.{In, Low}
use Rattle.window.specs.Mirror.{put1_on, put1-off, put4_on, put4-off}
use Rattle.layout.specs.Header.{relocation_entry_size, external_relocation_table_offset, external_relocation_num}
use Rattle.layout.specs.Format.{relocation_type}
use Rattle.layout.specs.Relocation.Relocation.{relocated_word, patch, apply_relocation}
use Rattle.layout.specs.Segments.{field, entry_at, tag_to_address}
use Rattle.linker_spec.specs.Relocation.{unresolved_symbol, relocate_at, reset_entry, reset_external_relocations}
use Rattle.history.specs.Image.{tables, externals, start, count, entry, tag, kind, addend}
use Rattle.history.specs.LoadedModule.{Image, base_of, moved_offset, address, handler, Area}
use Rattle.history.specs.WellLaid.{external, WordAt, WellLaid}
use Rattle.history.specs.Steps.Wp.{Memory, Does, SameOutside, does_mono, does_ret, does_then, does_read, ends_put8, ends_privileged}
use Rattle.history.specs.Steps.View.{View, view_agree}
use Rattle.history.specs.Steps.Parts.{ReadOffset, read_offset, read_offset_no_word, read_offset_no_mark}
use Rattle.history.specs.Steps.ModuleBytes.{value_of, mark_at, one_place, words-apart, word_no_mark, marks-apart, mark_offset, is_mark, moving_area}
use Rattle.history.specs.Steps.Reading.{entry_at_lem, reads_count, reads_start, reads_address, reads_handler}
use Rattle.history.specs.Steps.Batch.{Sort, sort, writes, writes_not, nowhere_no, word_address, word_at, word_writes_not, value_is, entry-inside, mark-sum, reads_tag, reads_kind, reads_addend}
use Rattle.history.specs.Rebase.Cells.{cells}

module _ (m : Image) where
  -- the word of external entry j; with its mark
  abbrev WordOf : ℕ → ℕ → Type 0
  WordOf j q = (p : ℕ) × WordAt m (external j) p × In p 4 q

  abbrev pub ExternalByte : ℕ → ℕ → Type 0
  ExternalByte j q = WordOf j q ⊎ (mark_at m j ≡ q)

  -- its word has the symbol a
  abbrev pub HasSymbol : ℕ → ℕ → Memory → Type 0
  HasSymbol a j N = (p k : ℕ) → k < 4 → WordAt m (external j) p → N (p + k) ≡ byte_of k (value_of m j a p)

  -- entry j is reset
  pub record EntryReset (j : ℕ) (N : Memory) : Type 0 where
    pub word-reset : HasSymbol (handler m) j N
    pub mark-reset : N (mark_at m j) ≡ 0

module _ (m : Image) (laid : WellLaid m) (low : Low (Area m)) where
  abbrev F : ℕ → ℕ
  F = m.file

  abbrev base : ℕ
  base = base_of m.load_call

  abbrev S : ℕ → Type 0
  S = Area m

  outer_apart : (i j : ℕ) → i < j → j < count F externals → (q : ℕ) → ExternalByte m i q → ExternalByte m j q → ⊥
  outer_apart i j l h q (inl a) (inl b) = words-apart m laid i j a.0 b.0 q (λ e. absurd (omega (arith, e))) a.1 b.1 a.2 b.2
  outer_apart i j l h q (inl a) (inr e) = word_no_mark m laid i a.0 j a.1 h (rw e a.2)
  outer_apart i j l h q (inr e) (inl b) = word_no_mark m laid j b.0 i b.1 (omega arith) (rw e b.2)
  outer_apart i j l h q (inr e) (inr d) = absurd (omega (arith, marks-apart m laid i j (e ∙ sym d)))

  reset_local : (i : ℕ) (N L : Memory) → ((q : ℕ) → ExternalByte m i q → L q ≡ N q) → EntryReset m i N → EntryReset m i L
  reset_local i N L g r =
      record {
        word-reset = λ p k l h. g (p + k) (inl (p, h, (omega arith, omega arith))) ∙ r.word-reset p k l h;
        mark-reset = g (mark_at m i) (inr refl) ∙ r.mark-reset;
      }

  -- what is seen is none of it
  outer_view : {M N : Memory} (n : ℕ) → n ≤ count F externals → View m M → SameOutside (λ q. (j : ℕ) × (j < n) × ExternalByte m j q) M N → View m N
  outer_view {M} {N} n b v k =
      view_agree m M N (λ o h. sym (k (base + o) (λ c. off o (read_offset F o h) c.0 (omega (arith, b, c.1)) c.2))) v
    where
      off : (o : ℕ) → ReadOffset F o → (j : ℕ) → j < count F externals → ExternalByte m j (base + o) → ⊥
      off o s j l (inl a) = read_offset_no_word m laid o s (external j) a.0 a.1 a.2
      off o s j l (inr e) = read_offset_no_mark m laid o s j l (mark_offset m laid o j e)

  module _ {M : Memory} (v : View m M) where
    -- one entry gets the symbol a
    symbol_set
        : {N : Memory} (j a : ℕ) → j < count F externals
        → Does S (relocate_at (address m (tag F externals j)) (kind F externals j) (addend F externals j) a)
        (λ _ L. HasSymbol m a j L × SameOutside (WordOf m j) N L) N
    unfolding relocate_at apply_relocation patch
    symbol_set {N} j a l = go (address m (tag F externals j)) refl
      where
        go
            : (x : Option ℕ) → address m (tag F externals j) ≡ x
            → Does S (relocate_at x (kind F externals j) (addend F externals j) a) (λ _ L. HasSymbol m a j L × SameOutside (WordOf m j) N L) N
        go None e = does_ret S ((λ p k i h. absurd (nowhere_no p (sym e ∙ word_address m laid low v 0 0 j p h))), λ q o. refl)
        go (Some p) e = at-sort (sort (relocation_type (kind F externals j)))
          where
            at-sort
                : Sort (relocation_type (kind F externals j))
                → Does S (patch p (relocated_word (relocation_type (kind F externals j)) (addend F externals j) a p))
                (λ _ L. HasSymbol m a j L × SameOutside (WordOf m j) N L) N
            at-sort (writes f) =
                let h : WordAt m (external j) p = word_at m laid low v 0 0 j p l (f 0 0 0) e in
                let g = f (addend F externals j) a p in
                rw g.1
                (ends_privileged S p g.0 (λ k i. laid.in_place_lem.words_inside_lem (external j) p h (p + k) (omega arith, omega arith)) (
                  (λ q k i w.
                      rw (one_place m laid j q p w h, value_is m laid low v 0 0 j a p g.0 g.1) (put4_on N p g.0 k i)),
                  λ q o. put4-off N p g.0 q (λ i. o (p, h, i)),
                ))
            at-sort (writes_not f) =
                rw (f (addend F externals j) a p)
                (does_ret S ((λ q k i h. absurd (word_writes_not m laid low v 0 0 j q f h)), λ q o. refl))

    turn
        : (j : ℕ) (N : Memory) → j < count F externals → View m N
        → Does S (reset_entry base (handler m) (base + entry F externals j)) (λ _ L. EntryReset m j L × SameOutside (ExternalByte m j) N L) N
    unfolding reset_entry
    turn j N l w =
        rw (ne_eqb (handler m) 0 laid.in_place_lem.handler-there)
        (does_then S _ _
        (does_read S (get32 (base + entry F externals j)) _ (tag F externals j) (reads_tag m laid low v 0 0 w j l)
        (does_read S (get8 (base + entry F externals j ⊕ 4)) _ (kind F externals j) (reads_kind m laid low v 0 0 w j l)
        (does_read S (get32 (base + entry F externals j ⊕ 8)) _ (addend F externals j) (reads_addend m laid low v 0 0 w j l)
        (does_read S (tag_to_address base (tag F externals j)) _ (address m (tag F externals j)) (reads_address m laid low w (tag F externals j))
        (symbol_set j (handler m) l)))))
        (λ _ L h.
        rw (mark-sum m laid low v 0 0 j l)
        (ends_put8 S (mark_at m j) 0 (moving_area m laid (mark_at m j) (is_mark j l)) (
          record {
            word-reset =
                λ p k i g.
                put1-off L (mark_at m j) 0 (p + k) (λ e. word_no_mark m laid j p j g l (rw (← e) (omega arith, omega arith))) ∙ h.0 p k i g;
            mark-reset = put1_on L (mark_at m j) 0;
          },
          λ q o. put1-off L (mark_at m j) 0 q (λ e. o (inr (sym e))) ∙ h.1 q (λ c. o (inl c)),
        ))))

    -- all of them
    pub reset_does
        : Does S (reset_external_relocations base)
        (λ _ N.
        View m N × ((j : ℕ) → j < count F externals → EntryReset m j N) × SameOutside (λ q. (j : ℕ) × (j < count F externals) × ExternalByte m j q) M N) M
    unfolding reset_external_relocations tables
    reset_does =
        does_read S (unresolved_symbol base) _ (handler m) (reads_handler m laid low v)
        (does_read S (field base external_relocation_table_offset) _ (moved_offset base (start F externals)) (reads_start m laid low v 5 (lit< tt))
        (does_read S (field base external_relocation_num) _ (count F externals) (reads_count m laid low v 5 (lit< tt))
        (does_mono S
        (cells (ExternalByte m) (EntryReset m) M S {A = Unit {0}}
        (λ i _. reset_entry base (handler m) (entry_at (moved_offset base (start F externals)) i relocation_entry_size)) (count F externals) tt
        outer_apart (λ i l. reset_local i)
        (λ j b N l t.
        rw (entry_at_lem m laid low 5 j (lit< tt) l (omega (arith, entry-inside m laid low v 0 0 j l)))
        (turn j N l (outer_view j (omega arith) v t.kept))))
        (λ _ N t. (outer_view (count F externals) (omega arith) v t.kept, t.done, t.kept)))))
