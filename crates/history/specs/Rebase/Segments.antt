-- The segments of a load: one is refused, or each is put in its place; `initialize` only looks at them.
use Rattle.std.specs.Prelude.{ℕ, suc, ◌+◌, ◌-◌, ◌^◌, ◌≤◌, ◌<◌, ◌≡◌, refl, Bool, ◌⊎◌, List, Some, Option, None}
use Rattle.std.proofs.Math.Path.{ap}
use Rattle.std.proofs.Common.{◌∙◌, inl, inr, lit<}
use native.Mathlib.Omega.{arith}
use Rattle.window.specs.Access.{ret, ◌>>◌}
use Rattle.window.specs.Within.{In, Low}
use Rattle.window.specs.Mirror.{word}
use Rattle.layout.specs.Header.{segment_num}
use Rattle.layout.specs.Format.{segment_type, segment_type_number, segment_type-number}
use Rattle.layout.specs.Segments.{field, segment, set_segment}
use Rattle.layout.specs.declared.format.Segment.{Segment}
use Rattle.linker_spec.specs.declared.rebase.LoadArguments.{LoadArguments}
use Rattle.linker_spec.specs.Rebase.{at_offset, place, write_back, move_found, move_segment, move_segments, look_at_segments}
use Rattle.history.specs.Image.{tables, segments, count, entry, file_segment}
use Rattle.history.specs.LoadedModule.{loaded, Image, base_of, loaded_place, place_of, old_among, segment_place, old_place, Area}
use Rattle.history.specs.WellLaid.{table, InPart, WellLaid}
use Rattle.history.specs.Steps.Wp.{Memory, Does, SameOutside, does_mono, does_ret, does_then, does_read, does_loop}
use Rattle.history.specs.Steps.Parts.{apart, entry-in_table}
use Rattle.history.specs.Rebase.Cells.{TurnsMade, none_turned, Turned-more}
use Rattle.history.specs.Rebase.PartlyRebased.{PartlyRebased, Row, Rows, row_same, partly_rebased_more}
use Rattle.history.specs.Rebase.Header.{FileRows}
use Rattle.history.specs.Rebase.Fields.{entry-inside, reads_count, reads_file-segment}
use Rattle.history.specs.Rebase.Placing.{Puts, place_cases, place-small, word_small, sets_segment}

module _ (m : Image) (laid : WellLaid m) (low : Low (Area m)) where
  abbrev F : ℕ → ℕ
  F = m.file

  abbrev base : ℕ
  base = base_of m.load_call

  abbrev S : ℕ → Type 0
  S = Area m

  -- the bytes of segment i's entry
  abbrev EntryByte : ℕ → ℕ → Type 0
  EntryByte i q = In (base + entry F segments i) 12 q

  in_rows : (o i : ℕ) → i < count F segments → EntryByte i (base + o) → InPart F (table 0) o
  unfolding tables
  in_rows o i l c =
      let e : entry F segments i + (o - entry F segments i) ≡ o = omega (arith, c) in
      rw e at (entry-in_table F 0 i (o - entry F segments i) (lit< tt) l (omega (arith, c)))

  -- the first j entries written, the rest of the image is at the same stage
  stays
      : {ζ : ℕ → List ℕ} {M N : Memory} (j : ℕ) → j ≤ count F segments → PartlyRebased m ζ M → SameOutside (λ q. (i : ℕ) × (i < j) × EntryByte i q) M N → PartlyRebased m ζ N
  stays {ζ} {M} {N} j b s k =
      partly_rebased_more m 0 ζ ζ M N (λ n z. refl)
      (λ r o n h. k (base + o) (λ c. apart m laid r (table 0) o n h (in_rows o c.0 (omega (arith, b, c.1)) c.2)))
      (s.wide 0) (λ i x z. absurd (z refl)) (λ i x z. absurd (z refl)) s

  row_apart : (i j : ℕ) → i < j → (q : ℕ) → EntryByte i q → EntryByte j q → ⊥
  unfolding entry
  row_apart i j l q a b = absurd (omega (arith, a, b))

  row_local : (i : ℕ) (N L : Memory) → ((q : ℕ) → EntryByte i q → L q ≡ N q) → Row m i N → Row m i L
  row_local i N L g r =
      row_same m i N L (λ k l. g (base + (entry F segments i + k)) (omega arith, omega arith)) r

  -- the entry of a turn to come is still the file's
  still
      : {M N : Memory} (j : ℕ) → j < count F segments → FileRows m M → SameOutside (λ q. (i : ℕ) × (i < j) × EntryByte i q) M N
      → (k : ℕ) → k < 12 → N (base + (entry F segments j + k)) ≡ F (entry F segments j + k)
  still j l f t k h =
      t (base + (entry F segments j + k)) (λ c. row_apart c.0 j c.1 _ c.2 (omega arith, omega arith)) ∙ f j k l h

  -- "`initialize` neither changes nor checks segments"
  pub looks : {ζ : ℕ → List ℕ} {M : Memory} → PartlyRebased m ζ M → FileRows m M → Does S (look_at_segments base) (λ _ N. N ≡ M) M
  unfolding look_at_segments tables
  looks {ζ} {M} s f =
      does_read S (field base segment_num) _ (count F segments) (reads_count m laid low s 0 (lit< tt))
      (does_loop S {A = Unit {0}} (λ i _. segment base i >> ret tt) (λ _ _ N. N ≡ M) 0 (count F segments) tt M
      (λ j b N z l e.
      rw e
      (does_read S (segment base j) _ (Some (file_segment F j)) (reads_file-segment m laid low s j (omega arith) (λ k h. f j k (omega arith) h))
      (does_ret S refl))) refl)

-- a load that is not refused leaves every segment in its place, and gives the old place
module _ (l : LoadArguments) (auto : Bool) (level : ℕ) (f : ℕ → ℕ) where
  abbrev m₁ : Image
  m₁ = record { load_call = loaded l auto level; file = f }

  module _ (laid : WellLaid m₁) (low : Low (Area m₁)) (bytes : (o : ℕ) → o < l.size → f o < 256)
      (data-small : l.data_segment < 2 ^ 32) (bss-small : l.bss_segment < 2 ^ 32) {ζ : ℕ → List ℕ} {M : Memory} (s : PartlyRebased m₁ ζ M)
      (rows : FileRows m₁ M) where
    abbrev old : ℕ → ℕ
    old j = old_among j (loaded l auto level) (file_segment f)

    abbrev So : ℕ → Option ℕ → Memory → Type 0
    So j a N = (a ≡ None) ⊎ ((a ≡ Some (old j)) × TurnsMade (EntryByte m₁ laid low) (Row m₁) M j N)

    row_now
        : (j : ℕ) (L : Memory) → word L (l.base + entry f segments j) ≡ loaded_place l (file_segment f j) (file_segment f j).kind
        → word L (l.base + entry f segments j + 4) ≡ (file_segment f j).size
        → word L (l.base + entry f segments j + 8) ≡ segment_type_number (file_segment f j).kind → Row m₁ j L
    unfolding segment_place place_of
    row_now j L a b c =
        let e₄ : l.base + entry f segments j + 4 ≡ l.base + (entry f segments j + 4) = omega arith in
        let e₈ : l.base + entry f segments j + 8 ≡ l.base + (entry f segments j + 8) = omega arith in
        record { place = a; size = rw e₄ at b; kind = ap segment_type (rw e₈ at c) ∙ segment_type-number (file_segment f j).kind }

    size_small : (j : ℕ) → j < count f segments → (file_segment f j).size < 2 ^ 32
    unfolding file_segment tables
    size_small j h =
        let b = entry-inside m₁ laid low 0 j (lit< tt) h in
        word_small f (entry f segments j + 4) (λ k g. bytes (entry f segments j + 4 + k) (omega (arith, b)))

    turn
        : (j : ℕ) (N : Memory) → j < count f segments → TurnsMade (EntryByte m₁ laid low) (Row m₁) M j N
        → Does (Area m₁) (move_segment l j (Some (old j))) (So (suc j)) N
    unfolding move_segment move_found write_back old_among
    turn j N h t =
        let st = stays m₁ laid low j (omega arith) s t.kept in
        does_read (Area m₁) (segment l.base j) _ (Some (file_segment f j))
        (reads_file-segment m₁ laid low st j h (still m₁ laid low j h rows t.kept))
        (go st (place_cases l (file_segment f j) (file_segment f j).kind (old j)))
      where
        at : Segment
        at = at_offset (file_segment f j) (loaded_place l (file_segment f j) (file_segment f j).kind)

        go
            : PartlyRebased m₁ ζ N → Puts (place l (file_segment f j) (file_segment f j).kind (old j)) l (file_segment f j) (file_segment f j).kind (old j)
            → Does (Area m₁) (write_back l.base j (place l (file_segment f j) (file_segment f j).kind (old j))) (So (suc j)) N
        go st (inl e) = rw e (does_ret (Area m₁) (inl refl))
        go st (inr e) =
            rw e
            (does_then (Area m₁) (set_segment l.base j at) _
            (sets_segment m₁ laid low st j h at (place-small l (file_segment f j) (file_segment f j).kind data-small bss-small) (size_small j h))
            (λ _ L g.
            does_ret (Area m₁)
            (inr (
              refl,
              Turned-more (EntryByte m₁ laid low) (Row m₁) M j N L (λ i z. row_apart m₁ laid low i j z) (λ i z. row_local m₁ laid low i) t
                  (row_now j L g.0 g.1 g.2) g.3,
            ))))

    pub segments_move
        : Does (Area m₁) (move_segments l) (λ x N. (x ≡ None) ⊎ ((x ≡ Some (old_place m₁)) × PartlyRebased m₁ ζ N × Rows m₁ N)) M
    unfolding move_segments move_segment old_among old_place tables
    segments_move =
        let z : 0 + count f segments ≡ count f segments = omega arith in
        does_mono (Area m₁)
        (does_read (Area m₁) (field l.base segment_num) _ (count f segments) (reads_count m₁ laid low s 0 (lit< tt))
        (rw z at
        (does_loop (Area m₁) (move_segment l) So 0 (count f segments) (Some 0) M (λ j a N g h t. step j a N (omega arith) t)
        (inr (refl, none_turned (EntryByte m₁ laid low) (Row m₁) M)))))
        (λ x N h. ends x N h)
      where
        step : (j : ℕ) (a : Option ℕ) (N : Memory) → j < count f segments → So j a N → Does (Area m₁) (move_segment l j a) (So (suc j)) N
        step j a N h (inl e) = rw e (does_ret (Area m₁) (inl refl))
        step j a N h (inr g) = rw g.0 (turn j N h g.1)

        ends
            : (x : Option ℕ) (N : Memory) → So (count f segments) x N → (x ≡ None) ⊎ ((x ≡ Some (old_place m₁)) × PartlyRebased m₁ ζ N × Rows m₁ N)
        ends x N (inl e) = inl e
        ends x N (inr g) = inr (g.0, stays m₁ laid low (count f segments) (omega arith) s g.1.kept, g.1.done)
