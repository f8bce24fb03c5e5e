-- One segment of a load: refused, or written back with its place.
use Rattle.std.specs.Prelude.{if◌then◌else◌, ℕ, ◌+◌, ◌^◌, ◌<◌, ◌≡◌, refl, ◌⊎◌, List, Bool, true, false, eqb, ltb, Option, None, Some}
use Rattle.std.proofs.Common.{ap, ◌∙◌, inl, inr, lit<, eq-eqb, ne_eqb}
use native.Mathlib.Omega.{arith}
use Rattle.std.proofs.Math.Decide.{ℕ_discrete}
use Rattle.window.specs.Memory.{◌⊕◌}
use Rattle.window.specs.Within.{In, Low}
use Rattle.window.specs.Mirror.{word, put4, put4-off}
use Rattle.layout.specs.Header.{segment_table_offset}
use Rattle.layout.specs.Format.{segment_type_number}
use Rattle.layout.specs.Segments.{field, set_segment, set_segment_entry}
use Rattle.layout.specs.declared.format.Segment.{Segment}
use Rattle.layout.specs.declared.format.SegmentType.{SegmentType}
use Rattle.layout.specs.declared.format.SegmentType.TheVariants.{Code, RoData, Data, Bss}
use Rattle.linker_spec.specs.declared.rebase.LoadArguments.{LoadArguments}
use Rattle.linker_spec.specs.Rebase.{at_offset, moved_place, lent_place, place}
use Rattle.history.specs.Image.{tables, segments, start, count, entry}
use Rattle.history.specs.LoadedModule.{Image, base_of, moved_offset, loaded_place, old_for, Area}
use Rattle.history.specs.WellLaid.{WellLaid}
use Rattle.history.specs.Steps.Wp.{Memory, Does, SameOutside, does_read, does_put32, ends_put32}
use Rattle.history.specs.Steps.Reading.{plain-sum, four_at, entry_at_lem}
use Rattle.history.specs.Rebase.Cells.{put4-word, word-off}
use Rattle.history.specs.Rebase.PartlyRebased.{PartlyRebased}
use Rattle.history.specs.Rebase.Fields.{entry-inside, reads_start}

-- three words written one after the other
three-words
    : (M : Memory) (p a b c : ℕ) → a < 2 ^ 32 → b < 2 ^ 32 → c < 2 ^ 32
    → (word (put4 (put4 (put4 M p a) (p + 4) b) (p + 8) c) p ≡ a) × (word (put4 (put4 (put4 M p a) (p + 4) b) (p + 8) c) (p + 4) ≡ b)
    × (word (put4 (put4 (put4 M p a) (p + 4) b) (p + 8) c) (p + 8) ≡ c) × SameOutside (In p 12) M (put4 (put4 (put4 M p a) (p + 4) b) (p + 8) c)
three-words M p a b c ha hb hc = (
  off M₂ (p + 8) c p (λ q i j. absurd (omega (arith, i, j)))
      ∙ off M₁ (p + 4) b p (λ q i j. absurd (omega (arith, i, j)))
      ∙ put4-word M p a ha,
  off M₂ (p + 8) c (p + 4) (λ q i j. absurd (omega (arith, i, j))) ∙ put4-word M₁ (p + 4) b hb,
  put4-word M₂ (p + 8) c hc,
  λ q o.
      put4-off M₂ (p + 8) c q (λ i. o (omega (arith, i), omega (arith, i)))
      ∙ put4-off M₁ (p + 4) b q (λ i. o (omega (arith, i), omega (arith, i)))
      ∙ put4-off M p a q (λ i. o (omega (arith, i), omega (arith, i))),
)
  where
    M₁ : Memory
    M₁ = put4 M p a

    M₂ : Memory
    M₂ = put4 M₁ (p + 4) b

    off : (N : Memory) (x v y : ℕ) → ((q : ℕ) → In y 4 q → In x 4 q → ⊥) → word (put4 N x v) y ≡ word N y
    off N x v y o = word-off N (put4 N x v) (In x 4) y (λ q n. put4-off N x v q n) o

-- a segment with its place, and Data's old place
abbrev placing : Segment → ℕ → Option (Segment × ℕ)
placing s old = Some (s, old)

-- a segment is refused, or put where the image says
abbrev pub Puts : Option (Segment × ℕ) → LoadArguments → Segment → SegmentType → ℕ → Type 0
Puts x l s k old = (x ≡ None) ⊎ (x ≡ placing (at_offset s (loaded_place l s k)) (old_for s k l.base old))

moved_cases
    : (l : LoadArguments) (s : Segment) (old : ℕ)
    → (moved_place l s old ≡ None) ⊎ (moved_place l s old ≡ placing (at_offset s (moved_offset l.base s.offset)) old)
unfolding moved_place moved_offset
moved_cases l s old = go (ℕ_discrete s.offset 0)
  where
    pick : (b : Bool) (x : Option (Segment × ℕ)) → ((if b then None else x) ≡ None) ⊎ ((if b then None else x) ≡ x)
    pick true x = inl refl
    pick false x = inr refl

    go
        : Dec (s.offset ≡ 0)
        → ((if eqb s.offset 0 then placing s old
        else (if ltb (l.base ⊕ l.size) (s.offset ⊕ l.base) then None else placing (at_offset s (s.offset ⊕ l.base)) old)) ≡ None)
        ⊎ ((if eqb s.offset 0 then placing s old
        else (if ltb (l.base ⊕ l.size) (s.offset ⊕ l.base) then None else placing (at_offset s (s.offset ⊕ l.base)) old))
        ≡ placing (at_offset s (if eqb s.offset 0 then 0 else s.offset ⊕ l.base)) old)
    go (yes e) = inr (rw (eq-eqb s.offset 0 e) (ap (λ x. placing (at_offset s x) old) e))
    go (no n) = rw (ne_eqb s.offset 0 n) (pick (ltb (l.base ⊕ l.size) (s.offset ⊕ l.base)) (placing (at_offset s (s.offset ⊕ l.base)) old))

pub place_cases : (l : LoadArguments) (s : Segment) (k : SegmentType) (old : ℕ) → Puts (place l s k old) l s k old
unfolding place loaded_place old_for lent_place
place_cases l s Code old = moved_cases l s old
place_cases l s RoData old = moved_cases l s old
place_cases l s Data old = go (eqb s.size 0) (ltb l.data_segment_size s.size)
  where
    go
        : (c d : Bool)
        → ((if c then moved_place l s old else (if d then None else placing (at_offset s l.data_segment) (s.offset ⊕ l.base))) ≡ None)
        ⊎ ((if c then moved_place l s old else (if d then None else placing (at_offset s l.data_segment) (s.offset ⊕ l.base)))
        ≡ placing (at_offset s (if c then moved_offset l.base s.offset else l.data_segment)) (if c then old else s.offset ⊕ l.base))
    go true d = moved_cases l s old
    go false true = inl refl
    go false false = inr refl
place_cases l s Bss old = go (eqb s.size 0) (ltb l.bss_segment_size s.size)
  where
    go
        : (c d : Bool)
        → ((if c then moved_place l s old else (if d then None else placing (at_offset s l.bss_segment) old)) ≡ None)
        ⊎ ((if c then moved_place l s old else (if d then None else placing (at_offset s l.bss_segment) old))
        ≡ placing (at_offset s (if c then moved_offset l.base s.offset else l.bss_segment)) old)
    go true d = moved_cases l s old
    go false true = inl refl
    go false false = inr refl

number_small : (k : SegmentType) → segment_type_number k < 2 ^ 32
number_small Code = lit< tt
number_small RoData = lit< tt
number_small Data = lit< tt
number_small Bss = lit< tt

moved-small : (base x : ℕ) → moved_offset base x < 2 ^ 32
unfolding moved_offset
moved-small base x = go (eqb x 0)
  where
    go : (b : Bool) → (if b then 0 else x ⊕ base) < 2 ^ 32
    go true = lit< tt
    go false = omega arith

pub place-small : (l : LoadArguments) (s : Segment) (k : SegmentType) → l.data_segment < 2 ^ 32 → l.bss_segment < 2 ^ 32 → loaded_place l s k < 2 ^ 32
unfolding loaded_place
place-small l s Code d b = moved-small l.base s.offset
place-small l s RoData d b = moved-small l.base s.offset
place-small l s Data d b = go (eqb s.size 0)
  where
    go : (c : Bool) → (if c then moved_offset l.base s.offset else l.data_segment) < 2 ^ 32
    go true = moved-small l.base s.offset
    go false = d
place-small l s Bss d b = go (eqb s.size 0)
  where
    go : (c : Bool) → (if c then moved_offset l.base s.offset else l.bss_segment) < 2 ^ 32
    go true = moved-small l.base s.offset
    go false = b

pub word_small : (F : ℕ → ℕ) (o : ℕ) → ((k : ℕ) → k < 4 → F (o + k) < 256) → word F o < 2 ^ 32
unfolding word
word_small F o h =
    let e : o + 0 ≡ o = omega arith in
    let a : F o < 256 = rw e at (h 0 (lit< tt)) in omega (arith, a, h 1 (lit< tt), h 2 (lit< tt), h 3 (lit< tt))

module _ (m : Image) (laid : WellLaid m) (low : Low (Area m)) where
  abbrev F : ℕ → ℕ
  F = m.file

  abbrev base : ℕ
  base = base_of m.load_call

  abbrev S : ℕ → Type 0
  S = Area m

  -- the write back of one segment
  pub sets_segment
      : {ζ : ℕ → List ℕ} {M : Memory} → PartlyRebased m ζ M → (i : ℕ) → i < count F segments → (s : Segment) → s.offset < 2 ^ 32 → s.size < 2 ^ 32
      → Does S (set_segment base i s)
      (λ _ N.
      (word N (base + entry F segments i) ≡ s.offset) × (word N (base + entry F segments i + 4) ≡ s.size)
      × (word N (base + entry F segments i + 8) ≡ segment_type_number s.kind) × SameOutside (In (base + entry F segments i) 12) M N) M
  unfolding set_segment set_segment_entry tables
  sets_segment {ζ} {M} st i l s ho hs =
      let b = entry-inside m laid low 0 i (lit< tt) l in
      let t = plain-sum m laid low (entry F segments i + 11) (omega (arith, b)) in
      let e₄ : base + entry F segments i ⊕ 4 ≡ base + entry F segments i + 4 = omega (arith, t) in
      let e₈ : base + entry F segments i ⊕ 8 ≡ base + entry F segments i + 8 = omega (arith, t) in
      let f₀ = four_at m laid low (entry F segments i) (omega (arith, b)) in
      let f₄ = four_at m laid low (entry F segments i + 4) (omega (arith, b)) in
      let f₈ = four_at m laid low (entry F segments i + 8) (omega (arith, b)) in
      let z₄ : base + (entry F segments i + 4) ≡ base + entry F segments i + 4 = omega arith in
      let z₈ : base + (entry F segments i + 8) ≡ base + entry F segments i + 8 = omega arith in
      does_read S (field base segment_table_offset) _ (moved_offset base (start F segments)) (reads_start m laid low st 0 (lit< tt))
      (rw (entry_at_lem m laid low 0 i (lit< tt) l (omega (arith, b)), e₄, e₈)
      (does_put32 S (base + entry F segments i) s.offset _ f₀
      (does_put32 S (base + entry F segments i + 4) s.size _ (rw z₄ at f₄)
      (ends_put32 S (base + entry F segments i + 8) (segment_type_number s.kind) (rw z₈ at f₈)
      (three-words M (base + entry F segments i) s.offset s.size (segment_type_number s.kind) ho hs (number_small s.kind))))))
