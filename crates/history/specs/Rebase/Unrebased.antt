-- Unrebasing a module that shows its view touches only its own areas: its tables lie past the header that says where they are.
use Rattle.std.specs.Prelude.{if◌then◌else◌, ℕ, ◌+◌, ◌*◌, ◌≤◌, ◌<◌, ◌≡◌, refl, Bool, eqb, Option, Some, None}
use Rattle.std.proofs.Common.{ap, ◌∙◌, inl, inr, lit<, lit≤, lt-ltb}
use mathlib.Core.List.{List, [], ◌∷◌}
use Rattle.std.proofs.Math.Bool.{true, false}
use native.Mathlib.Omega.{arith}
use Rattle.std.proofs.Math.Decide.{dec_lt}
use Rattle.window.specs.Memory.{◌⊕◌}
use Rattle.window.specs.Access.{Prog, ret, ◌>>=◌, put32}
use Rattle.window.specs.Loop.{loop}
use Rattle.window.specs.Within.{Four, Low}
use Rattle.window.specs.Mirror.{word}
use Rattle.layout.specs.Header.{segment_num, segment_table_offset, first_rebased, fixed_size}
use Rattle.layout.specs.Format.{segment_type_number}
use Rattle.layout.specs.Tables.{pointer_table, pointer_tables}
use Rattle.layout.specs.Segments.{field, set_field, entry_at, segment_entry, set_segment_entry, segment, set_segment}
use Rattle.layout.specs.declared.format.Segment.{Segment}
use Rattle.linker_spec.specs.Rebase.{moved, move_word, move_header, move_pointers, move_table, move_tables}
use Rattle.linker_spec.specs.Unrebase.{leaves_as, unmove_found, unmove_segment, unmove_segments, unrebase}
use Rattle.history.specs.Image.{tables, segments, start, count, entry}
use Rattle.history.specs.LoadedModule.{Image, base_of, moved_offset, Area}
use Rattle.history.specs.WellLaid.{header, table, table_number, InPart, WellLaid}
use Rattle.history.specs.Steps.Wp.{Memory, Does, SameOutside, does_mono, does_ret, does_then, does_read, does_get32, does_put32, does_loop, does_wider, ends_put32, ReadsValue}
use Rattle.history.specs.Steps.View.{four, View, table-field, table-count}
use Rattle.history.specs.Steps.Parts.{sort, field_bounds, apart, image_area, entry-in_table}
use Rattle.history.specs.Steps.Reading.{plain-sum, four_at, entry_at_lem}
use Rattle.history.specs.Rebase.Cells.{Member}
use Rattle.history.specs.Rebase.PartlyRebased.{header_reads}
use Rattle.history.specs.Rebase.Fields.{entry-inside}
use Rattle.history.specs.Rebase.Viewed.{InEntry, fits}

-- what is left does not matter
abbrev Anything : {A : Type 0} → A → Memory → Type 0
Anything a N = Unit {0}

-- a word that moves is read and written in its place
module _ (S : ℕ → Type 0) (back : Bool) (base : ℕ) where
  word-any : (p : ℕ) {M : Memory} → Four S p → Does S (move_word back base p) Anything M
  unfolding move_word
  word-any p {M} s = does_get32 S p _ s (go (eqb (word M p) 0))
    where
      go : (b : Bool) → Does S (if b then ret tt else put32 p (moved back base (word M p))) Anything M
      go true = does_ret S tt
      go false = ends_put32 S p (moved back base (word M p)) s tt

  pointers-any : (e : ℕ) (xs : List ℕ) (M : Memory) → ((x : ℕ) → Member x xs → Four S (e ⊕ x)) → Does S (move_pointers back base e xs) Anything M
  unfolding move_pointers Member
  pointers-any e [] M f = does_ret S tt
  pointers-any e (x ∷ xs) M f =
      does_then S (move_word back base (e ⊕ x)) _ (word-any (e ⊕ x) (f x (inl refl))) (λ _ N h. pointers-any e xs N (λ y a. f y (inr a)))

module _ (m : Image) where
  abbrev F : ℕ → ℕ
  F = m.file

  abbrev base : ℕ
  base = base_of m.load_call

  -- the header says where the nine tables are
  record HeaderLocatesTables (M : Memory) : Type 0 where
    starts : (n : ℕ) → n < 9 → word M (base + (table_number n).field) ≡ moved_offset base (start F (table_number n))
    counts : (n : ℕ) → n < 9 → word M (base + ((table_number n).field + 4)) ≡ count F (table_number n)

  view_leads : {M : Memory} → View m M → HeaderLocatesTables M
  unfolding start count
  view_leads v =
      record {
        starts = λ n l. v.moved (table_number n).field (table-field n l);
        counts = λ n l. v.kept ((table_number n).field + 4) (table-count n l);
      }

  -- the module's bytes past its header
  abbrev Past : ℕ → Type 0
  Past q = Area m q × (base + 0x138 ≤ q)

  led_kept : {M N : Memory} → HeaderLocatesTables M → SameOutside Past M N → HeaderLocatesTables N
  led_kept {M} {N} h k =
      record {
        starts = λ n l. same (table_number n).field (omega (arith, field_bounds n l)) ∙ h.starts n l;
        counts = λ n l. same ((table_number n).field + 4) (omega (arith, field_bounds n l)) ∙ h.counts n l;
      }
    where
      same : (x : ℕ) → x + 4 ≤ 0x138 → word N (base + x) ≡ word M (base + x)
      same x l = four m N M x (λ j g. k (base + (x + j)) (λ p. absurd (omega (arith, p.1))))

module _ (m : Image) (laid : WellLaid m) (low : Low (Area m)) where
  abbrev S : ℕ → Type 0
  S = Area m

  abbrev at : ℕ
  at = base_of m.load_call

  abbrev G : ℕ → ℕ
  G = m.file

  -- a word of an entry of table n, as an address past the header
  entry-word
      : (n i x : ℕ) → n < 12 → i < count G (table_number n) → x + 4 ≤ (table_number n).width
      → (at + entry G (table_number n) i ⊕ x ≡ at + (entry G (table_number n) i + x)) × Four (Past m) (at + (entry G (table_number n) i + x))
  unfolding InPart
  entry-word n i x l h w =
      let b = entry-inside m laid low n i l h in
      let p = plain-sum m laid low (entry G (table_number n) i + x) (omega (arith, w, b)) in
      (omega (arith, p), λ k g. (rw (sum k) at (image_area m laid (entry G (table_number n) i + x + k) (omega (arith, w, b))), past k g))
    where
      sum : (k : ℕ) → at + (entry G (table_number n) i + x + k) ≡ at + (entry G (table_number n) i + x) + k
      sum k = omega arith

      past : (k : ℕ) → k < 4 → at + 0x138 ≤ at + (entry G (table_number n) i + x) + k
      past k g =
          elim (dec_lt (entry G (table_number n) i + (x + k)) 0x138) [
            | yes o ↦
                absurd (apart m laid header (table n) (entry G (table_number n) i + (x + k)) (λ z. absurd (omega (arith, ap sort z))) o
                (entry-in_table G n i (x + k) l h (omega (arith, w, g))))
            | no o ↦ omega (arith, o)
          ]

  entry_four
      : (n i x : ℕ) → n < 12 → i < count G (table_number n) → x + 4 ≤ (table_number n).width → Four (Past m) (at + entry G (table_number n) i ⊕ x)
  entry_four n i x l h w = let e = entry-word n i x l h w in rw e.0 e.1

  place : (n i : ℕ) → n < 12 → i < count G (table_number n) → 4 ≤ (table_number n).width
      → entry_at (moved_offset at (start G (table_number n))) i (table_number n).width ≡ at + entry G (table_number n) i
  unfolding tables
  place n i l h w = entry_at_lem m laid low n i l h (omega (arith, w, entry-inside m laid low n i l h))

  -- the columns xs of table t, whatever stands there
  abbrev mover : ℕ → List ℕ → Prog (Unit {0})
  mover t xs =
      field at (table_number t).field >>= λ a.
      field at ((table_number t).field + 4) >>= λ n.
      if eqb a 0 then ret tt else loop (λ i _. move_pointers false at (entry_at a i (table_number t).width) xs) 0 n tt

  reads_led : {M : Memory} (x u : ℕ) → x + 4 ≤ 0x138 → word M (at + x) ≡ u → ReadsValue S (field at x) u M
  reads_led x u l e = header_reads m laid low x l e

  -- what is written past the header leaves it as it was
  past_does : {A : Type 0} {c : Prog A} {M : Memory} → HeaderLocatesTables m M → Does (Past m) c Anything M → Does S c (λ _ N. HeaderLocatesTables m N) M
  past_does h d = does_mono S (does_wider (Past m) S (λ q s. s.0) d) (λ _ N g. led_kept m h g.1)

  table-any
      : (t : ℕ) (xs : List ℕ) → t < 9 → 4 ≤ (table_number t).width → InEntry (table_number t).width xs → {M : Memory} → HeaderLocatesTables m M
      → Does S (mover t xs) (λ _ N. HeaderLocatesTables m N) M
  table-any t xs l w f {M} h =
      does_read S (field at (table_number t).field) _ a (reads_led (table_number t).field a (omega (arith, b)) (h.starts t l))
      (does_read S (field at ((table_number t).field + 4)) _ c (reads_led ((table_number t).field + 4) c (omega (arith, b)) (h.counts t l))
      (go (eqb a 0)))
    where
      b : (0xc8 ≤ (table_number t).field) × ((table_number t).field + 8 ≤ 0x118)
      b = field_bounds t l

      a : ℕ
      a = moved_offset at (start G (table_number t))

      c : ℕ
      c = count G (table_number t)

      go
          : (z : Bool)
          → Does S (if z then ret tt else loop (λ i _. move_pointers false at (entry_at a i (table_number t).width) xs) 0 c tt) (λ _ N. HeaderLocatesTables m N) M
      go true = does_ret S h
      go false =
          past_does h
          (does_loop (Past m) {A = Unit {0}} (λ i _. move_pointers false at (entry_at a i (table_number t).width) xs) (λ _ _ N. Unit {0}) 0 c tt M
          (λ i _ N z g _.
          rw (place t i (omega arith) (omega arith) w)
          (pointers-any (Past m) false at (at + entry G (table_number t) i) xs N
          (λ x e. entry_four t i x (omega arith) (omega arith) (fits (table_number t).width xs f x e)))) tt)

  tables-any : {M : Memory} → HeaderLocatesTables m M → Does S (move_tables false at pointer_tables) (λ _ N. HeaderLocatesTables m N) M
  unfolding move_tables move_table pointer_tables tables InEntry
  tables-any h =
      does_then S (move_table false at (pointer_table 0xd0 0xd4 8 1 0 0 0)) _
      (table-any 1 (0 ∷ []) (lit< tt) (lit≤ tt) (lit≤ tt, tt) h)
      (λ _ M₁ h₁.
      does_then S (move_table false at (pointer_table 0xf0 0xf4 20 3 0 4 12)) _
      (table-any 4 (0 ∷ 4 ∷ 12 ∷ []) (lit< tt) (lit≤ tt) (lit≤ tt, (lit≤ tt, (lit≤ tt, tt))) h₁)
      (λ _ M₂ h₂.
      does_then S (move_table false at (pointer_table 0x100 0x104 8 2 0 4 0)) _
      (table-any 6 (0 ∷ 4 ∷ []) (lit< tt) (lit≤ tt) (lit≤ tt, (lit≤ tt, tt)) h₂)
      (λ _ M₃ h₃.
      does_then S (move_table false at (pointer_table 0x108 0x10c 8 1 4 0 0)) _
      (table-any 7 (4 ∷ []) (lit< tt) (lit≤ tt) (lit≤ tt, tt) h₃)
      (λ _ M₄ h₄.
      does_then S (move_table false at (pointer_table 0x110 0x114 8 1 4 0 0)) _
      (table-any 8 (4 ∷ []) (lit< tt) (lit≤ tt) (lit≤ tt, tt) h₄)
      (λ _ M₅ h₅. does_ret S h₅)))))

  -- a segment's entry, whatever it says, is read and written in its place
  module _ (i : ℕ) (l : i < count G segments) {M : Memory} (h : HeaderLocatesTables m M) where
    abbrev row : ℕ
    row = at + entry G segments i

    row_four : (x : ℕ) → x + 4 ≤ 12 → Four (Past m) (row ⊕ x)
    unfolding tables
    row_four x g = entry_four 0 i x (lit< tt) l g

    first_four : Four (Past m) row
    unfolding tables
    first_four =
        let e : at + (entry G segments i + 0) ≡ row = omega arith in rw e at (entry-word 0 i 0 (lit< tt) l (lit≤ tt)).1

    entry-any : Does S (segment_entry row) (λ _ N. N ≡ M) M
    unfolding segment_entry
    entry-any =
        does_get32 S row _ (λ k g. (first_four k g).0)
        (does_get32 S (row ⊕ 4) _ (λ k g. (row_four 4 (lit≤ tt) k g).0)
        (does_get32 S (row ⊕ 8) _ (λ k g. (row_four 8 (lit≤ tt) k g).0) (does_ret S refl)))

    segment-any : Does S (segment at i) (λ _ N. N ≡ M) M
    unfolding segment tables
    segment-any =
        does_read S (field at segment_num) _ (count G segments) (reads_led segment_num (count G segments) (lit≤ tt) (h.counts 0 (lit< tt)))
        (rw (lt-ltb i (count G segments) l)
        (does_read S (field at segment_table_offset) _ (moved_offset at (start G segments))
        (reads_led segment_table_offset (moved_offset at (start G segments)) (lit≤ tt) (h.starts 0 (lit< tt)))
        (rw (place 0 i (lit< tt) l (lit≤ tt))
        (does_then S (segment_entry row) _ entry-any (λ s N e. does_ret S e)))))

    set-any : (s : Segment) → Does S (set_segment at i s) (λ _ N. HeaderLocatesTables m N) M
    unfolding set_segment set_segment_entry tables
    set-any s =
        does_read S (field at segment_table_offset) _ (moved_offset at (start G segments))
        (reads_led segment_table_offset (moved_offset at (start G segments)) (lit≤ tt) (h.starts 0 (lit< tt)))
        (rw (place 0 i (lit< tt) l (lit≤ tt))
        (past_does h
        (does_put32 (Past m) row s.offset _ first_four
        (does_put32 (Past m) (row ⊕ 4) s.size _ (row_four 4 (lit≤ tt))
        (ends_put32 (Past m) (row ⊕ 8) (segment_type_number s.kind) (row_four 8 (lit≤ tt)) tt)))))

    unmove_any : Does S (unmove_segment at i) (λ _ N. HeaderLocatesTables m N) M
    unfolding unmove_segment unmove_found
    unmove_any = does_then S (segment at i) _ segment-any (λ s N e. rw e (go s))
      where
        go : (s : Option Segment) → Does S (unmove_found at i s) (λ _ N. HeaderLocatesTables m N) M
        go None = does_ret S h
        go (Some s) = set-any (leaves_as at s s.kind)

  segments-any : {M : Memory} → HeaderLocatesTables m M → Does S (unmove_segments at) (λ _ N. HeaderLocatesTables m N) M
  unfolding unmove_segments tables
  segments-any {M} h =
      does_read S (field at segment_num) _ (count G segments) (reads_led segment_num (count G segments) (lit≤ tt) (h.counts 0 (lit< tt)))
      (does_loop S {A = Unit {0}} (λ i _. unmove_segment at i) (λ _ _ N. HeaderLocatesTables m N) 0 (count G segments) tt M
      (λ i _ N z l g. unmove_any i (omega arith) g) h)

  header_four : (x : ℕ) → x + 4 ≤ 0x138 → Four S (at ⊕ x)
  header_four x l =
      let h = laid.alone.header-inside in
      let b = plain-sum m laid low x (omega (arith, h)) in
      let e : at ⊕ x ≡ at + x = omega (arith, b) in rw e (four_at m laid low x (omega (arith, h)))

  header-any : {M : Memory} → Does S (move_header false at) Anything M
  unfolding move_header
  header-any =
      does_then S (move_word false at (at ⊕ 0x84)) _ (word-any S false at (at ⊕ 0x84) (header_four 0x84 (lit≤ tt)))
      (λ _ N _.
      does_loop S {A = Unit {0}} (λ i _. move_word false at (at ⊕ (first_rebased + 8 * i))) (λ _ _ _. Unit {0}) 0 17 tt N
      (λ i _ L z l _. word-any S false at (at ⊕ (0xb0 + 8 * i)) (header_four (0xb0 + 8 * i) (omega arith))) tt)

  pub unrebases : {M : Memory} → View m M → Does S (unrebase at) (λ _ _. Unit {0}) M
  unfolding unrebase set_field
  unrebases v =
      does_then S (move_tables false at pointer_tables) _ (tables-any (view_leads m v))
      (λ _ N h.
      does_then S (unmove_segments at) _ (segments-any h)
      (λ _ L g.
      does_then S (move_header false at) _ header-any (λ _ K _. ends_put32 S (at ⊕ fixed_size) 0 (header_four fixed_size (lit≤ tt)) tt)))
