-- The pointers in the entries of five tables move; nothing else does.
use Rattle.std.specs.Prelude.{if◌then◌else◌, ℕ, ◌+◌, ◌-◌, ◌≤◌, ◌<◌, ◌≡◌, ◌≢◌, ◌⊎◌, List, [], true, eqb}
use Rattle.std.proofs.Math.Path.{refl, ap}
use Rattle.std.proofs.Common.{sym, ◌∙◌, inl, inr, lit<, eq-eqb, ne_eqb}
use native.Mathlib.Omega.{arith}
use Rattle.std.proofs.Math.Decide.{dec_lt, ℕ_discrete}
use Rattle.window.specs.Memory.{◌⊕◌}
use Rattle.window.specs.Access.{Prog, ret, ◌>>=◌}
use Rattle.window.specs.Loop.{loop}
use Rattle.window.specs.Within.{In, Four, Low}
use Rattle.window.specs.Mirror.{word, word_same}
use Rattle.layout.specs.Segments.{field, entry_at}
use Rattle.linker_spec.specs.Rebase.{move_pointers}
use Rattle.history.specs.Image.{tables, segments, start, count, entry}
use Rattle.history.specs.LoadedModule.{Image, base_of, size_of, moved_offset, Area}
use Rattle.history.specs.WellLaid.{table, table_number, WellLaid}
use Rattle.history.specs.Steps.Wp.{Memory, Does, does_mono, does_ret, does_read}
use Rattle.history.specs.Steps.Parts.{row, number, apart, entry-in_table}
use Rattle.history.specs.Steps.Reading.{plain-sum, four_at, moved_sum, entry_at_lem}
use Rattle.history.specs.Rebase.Cells.{TurnsMade, cells, Member, Spread, Columns, moves_columns, word-off}
use Rattle.history.specs.Rebase.PartlyRebased.{word_is, PartlyRebased, Rows, row_same, Others, partly_rebased_more}
use Rattle.history.specs.Rebase.Fields.{field_of, entry-inside, reads_start, reads_count}

-- other columns for table t
unfoldable pub with_columns : (ℕ → List ℕ) → ℕ → List ℕ → ℕ → List ℕ
with_columns ζ t xs n = if eqb n t then xs else ζ n

with-same : (ζ : ℕ → List ℕ) (t : ℕ) (xs : List ℕ) → with_columns ζ t xs t ≡ xs
unfolding with_columns
with-same ζ t xs = rw (eq-eqb t t refl) refl

with-other : (ζ : ℕ → List ℕ) (t : ℕ) (xs : List ℕ) (n : ℕ) → n ≢ t → with_columns ζ t xs n ≡ ζ n
unfolding with_columns
with-other ζ t xs n h = rw (ne_eqb n t h) refl

module _ (m : Image) (laid : WellLaid m) (low : Low (Area m)) where
  abbrev F : ℕ → ℕ
  F = m.file

  abbrev base : ℕ
  base = base_of m.load_call

  abbrev S : ℕ → Type 0
  S = Area m

  -- the columns xs of table t
  abbrev mover : ℕ → List ℕ → Prog (Unit {0})
  mover t xs =
      field base (table_number t).field >>= λ at.
      field base ((table_number t).field + 4) >>= λ n.
      if eqb at 0 then ret tt else loop (λ i _. move_pointers true base (entry_at at i (table_number t).width) xs) 0 n tt

  module _ (t : ℕ) (xs : List ℕ) (lt : t < 12) (spread : Spread xs) (wide : (x : ℕ) → Member x xs → x + 4 ≤ (table_number t).width) where
    abbrev place : ℕ → ℕ
    place i = base + entry F (table_number t) i

    abbrev ColumnByte : ℕ → ℕ → Type 0
    ColumnByte i q = Columns (place i) xs q

    abbrev ColumnMoved : Memory → ℕ → Memory → Type 0
    ColumnMoved M i N = (x : ℕ) → Member x xs → word N (place i + x) ≡ moved_offset base (word M (place i + x))

    -- entries of two numbers do not meet
    rows_apart : (i j x k : ℕ) → i < j → x < (table_number t).width → entry F (table_number t) i + x ≡ entry F (table_number t) j + k → ⊥
    unfolding entry
    rows_apart i j x k l h e = let r = row i j (table_number t).width x l h in absurd (omega (arith, r, e))

    cells_apart : (i j : ℕ) → i < j → (q : ℕ) → ColumnByte i q → ColumnByte j q → ⊥
    cells_apart i j l q a b =
        let w = wide a.0 a.1 in
        rows_apart i j (q - place i) (q - place j) l (omega (arith, w, a.2)) (omega (arith, a.2, b.2))

    column_fits : (i x : ℕ) → i < count F (table_number t) → Member x xs → Four S (place i + x) × (place i ⊕ x ≡ place i + x)
    column_fits i x l a =
        let w = wide x a in
        let b = entry-inside m laid low t i lt l in
        let p = plain-sum m laid low (entry F (table_number t) i + x) (omega (arith, w, b)) in
        let e : base + (entry F (table_number t) i + x) ≡ place i + x = omega arith in
        (rw e at (four_at m laid low (entry F (table_number t) i + x) (omega (arith, w, b))), omega (arith, p))

    inside : (i : ℕ) → i < count F (table_number t) → entry F (table_number t) i < size_of m.load_call
    inside i l = omega (arith, entry-inside m laid low t i lt l, (field_of t lt).1)

    start-low : (i : ℕ) → i < count F (table_number t) → start F (table_number t) < size_of m.load_call
    unfolding entry
    start-low i l = omega (arith, inside i l)

    rows_move
        : (M : Memory)
        → Does S
        (loop (λ i _. move_pointers true base (entry_at (moved_offset base (start F (table_number t))) i (table_number t).width) xs) 0
        (count F (table_number t)) tt)
        (λ _ N. TurnsMade ColumnByte (ColumnMoved M) M (count F (table_number t)) N) M
    unfolding tables
    rows_move M =
        cells ColumnByte (ColumnMoved M) M S {A = Unit {0}} _ (count F (table_number t)) tt (λ i j l h. cells_apart i j l)
        (λ i l N L g h x a. word_same L N (place i + x) (λ k b. g (place i + x + k) (x, a, (omega arith, omega arith))) ∙ h x a)
        (λ j b N l u.
        rw (entry_at_lem m laid low t j lt l (inside j l))
        (does_mono S (moves_columns S base (place j) xs N spread (λ x a. column_fits j x l a))
        (λ _ L g. (
          (λ x a.
              g.0 x a
              ∙ ap (moved_offset base)
              (word-off M N (λ q. (i : ℕ) × (i < j) × ColumnByte i q) (place j + x) u.kept
              (λ q a₁ c. cells_apart c.0 j c.1 q c.2 (x, a, a₁)))),
          g.1,
        ))))

    module _ (t≢0 : t ≢ 0) {ζ : ℕ → List ℕ} (new : ζ t ≡ []) {M : Memory} (s : PartlyRebased m ζ M) (rows : Rows m M) where
      none : (x : ℕ) → Member x (ζ t) → ⊥
      unfolding Member
      none x a = rw new at a

      plain-Row
          : (i k : ℕ) → i < count F (table_number t) → k < (table_number t).width
          → M (base + (entry F (table_number t) i + k)) ≡ F (entry F (table_number t) i + k)
      plain-Row i k l h = s.plain t i k lt t≢0 l h (λ x a. absurd (none x a))

      plain_word
          : (i x : ℕ) → i < count F (table_number t) → Member x xs
          → word M (base + (entry F (table_number t) i + x)) ≡ word F (entry F (table_number t) i + x)
      plain_word i x l a =
          let w = wide x a in
          word_is F M base (entry F (table_number t) i + x)
          (λ k h.
          let e : entry F (table_number t) i + x + k ≡ entry F (table_number t) i + (x + k) = omega arith in
          rw e (plain-Row i (x + k) l (omega (arith, w))))

      -- only this table's bytes are written
      others : {N : Memory} → TurnsMade ColumnByte (ColumnMoved M) M (count F (table_number t)) N → Others m t M N
      others u r o n h =
          u.kept (base + o)
          (λ c.
          let w = wide c.2.0 c.2.1 in
          let e : entry F (table_number t) c.0 + (o - entry F (table_number t) c.0) ≡ o = omega (arith, c.2.2) in
          apart m laid r (table t) o n h
          (rw e at (entry-in_table F t c.0 (o - entry F (table_number t) c.0) lt c.1 (omega (arith, w, c.2.2)))))

      partly : {N : Memory} → TurnsMade ColumnByte (ColumnMoved M) M (count F (table_number t)) N → PartlyRebased m (with_columns ζ t xs) N
      partly {N} u =
          partly_rebased_more m t ζ (with_columns ζ t xs) M N (λ n h. with-other ζ t xs n h) (others u) (λ x a. wide x (rw (with-same ζ t xs) at a))
          (λ i x z l a.
          let b : Member x xs = rw (with-same ζ t xs) at a in
          let e : base + (entry F (table_number t) i + x) ≡ place i + x = omega arith in
          rw e (u.done i l x b) ∙ ap (moved_offset base) (rw e at (plain_word i x l b)))
          (λ i k z l h o.
          u.kept (base + (entry F (table_number t) i + k)) (λ c. meets i k h o c.0 c.2 (ℕ_discrete i c.0)) ∙ plain-Row i k l h) s
        where
          meets
              : (i k : ℕ) → k < (table_number t).width → ((x : ℕ) → Member x (with_columns ζ t xs t) → In x 4 k → ⊥) → (j : ℕ)
              → ColumnByte j (base + (entry F (table_number t) i + k)) → Dec (i ≡ j) → ⊥
          meets i k h o j c (yes e) =
              let d = rw e at c.2 in
              o c.0 (rw (with-same ζ t xs) c.1) (omega (arith, d), omega (arith, d))
          meets i k h o j c (no n) =
              let w = wide c.0 c.1 in
              elim (dec_lt i j) [
                | yes l ↦ rows_apart i j k (entry F (table_number t) i + k - entry F (table_number t) j) l h (omega (arith, c.2))
                | no l ↦
                    rows_apart j i (entry F (table_number t) i + k - entry F (table_number t) j) k (omega (arith, n)) (omega (arith, w, c.2))
                    (omega (arith, c.2))
              ]

      rows_stay : {N : Memory} → TurnsMade ColumnByte (ColumnMoved M) M (count F (table_number t)) N → Rows m N
      unfolding tables
      rows_stay {N} u i l =
          row_same m i M N
          (λ k h. others u (table 0) (entry F segments i + k) (λ z. t≢0 (sym (ap number z))) (entry-in_table F 0 i k (lit< tt) l h)) (rows i l)

      -- nothing moves where the offset is 0: then the table is empty
      pub table_moves : Does S (mover t xs) (λ _ N. PartlyRebased m (with_columns ζ t xs) N × Rows m N) M
      unfolding tables
      table_moves =
          does_read S (field base (table_number t).field) _ (moved_offset base (start F (table_number t))) (reads_start m laid low s t lt)
          (does_read S (field base ((table_number t).field + 4)) _ (count F (table_number t)) (reads_count m laid low s t lt)
          (go (ℕ_discrete (moved_offset base (start F (table_number t))) 0)))
        where
          empty : moved_offset base (start F (table_number t)) ≡ 0 → TurnsMade ColumnByte (ColumnMoved M) M (count F (table_number t)) M
          empty e = record { done = λ i l. absurd (no_entry i l (laid.alone.tables-inside t lt)); kept = λ q o. refl }
            where
              no_entry
                  : (i : ℕ) → i < count F (table_number t)
                  → (count F (table_number t) ≡ 0)
                  ⊎ ((start F (table_number t) ≢ 0) × (entry F (table_number t) (count F (table_number t)) ≤ size_of m.load_call)) → ⊥
              no_entry i l (inl z) = absurd (omega (arith, z))
              no_entry i l (inr h) =
                  h.0 (let b = moved_sum m laid low (start F (table_number t)) h.0 (start-low i l) in omega (arith, e, b))

          go
              : Dec (moved_offset base (start F (table_number t)) ≡ 0)
              → Does S
              (if eqb (moved_offset base (start F (table_number t))) 0 then ret tt
              else loop (λ i _. move_pointers true base (entry_at (moved_offset base (start F (table_number t))) i (table_number t).width) xs) 0
              (count F (table_number t)) tt) (λ _ N. PartlyRebased m (with_columns ζ t xs) N × Rows m N) M
          go (yes e) = rw (eq-eqb (moved_offset base (start F (table_number t))) 0 e) (does_ret S (partly (empty e), rows_stay (empty e)))
          go (no n) =
              rw (ne_eqb (moved_offset base (start F (table_number t))) 0 n)
              (does_mono S (rows_move M) (λ _ N u. (partly u, rows_stay u)))
