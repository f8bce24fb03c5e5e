-- Reading a module that shows its view: fields, segments, tags, the handler and names are what the image says.
use Prim.Native.Nat.{ℕ, zero, suc, ◌+◌, ◌^◌, ◌≤◌, ◌<◌}
use Rattle.std.specs.Prelude.{if◌then◌else◌, ◌≡◌, ◌≢◌, ◌⊎◌, length, eqb, Some, None}
use Rattle.std.proofs.Math.Path.{refl}
use Rattle.std.proofs.Common.{ap, inl, inr, lit<, lit≤}
use mathlib.Core.List.{List, [], ◌∷◌}
use native.Mathlib.Omega.{arith}
use Rattle.std.proofs.Math.Decide.{dec_lt, ℕ_discrete}
use Rattle.std.proofs.Math.Dec.{ltb}
use borrow.Author.Tests.{eq-eqb, ne_eqb, lt-ltb, le-ltb}
use Rattle.window.specs.Memory.{◌⊕◌}
use Rattle.window.specs.Access.{ret, ◌>>=◌, get8, get32}
use Rattle.window.specs.Name.{name_at, name_from}
use Rattle.window.specs.Within.{Four, Low}
use Rattle.window.specs.Mirror.{word, run_m}
use Rattle.layout.specs.Header.{segment_num, segment_table_offset, segment_entry_size, on_unresolved_segment_tag}
use Rattle.layout.specs.Format.{tag_segment}
use Rattle.layout.specs.Segments.{field, entry_at, segment_entry, segment, tag_to_address}
use Rattle.linker_spec.specs.Relocation.{unresolved_symbol}
use Rattle.history.specs.Image.{tables, segments, start, count, entry, name_of, file_segment}
use Rattle.history.specs.LoadedModule.{Image, base_of, size_of, moved_offset, segment_place, placed_segment, address, handler, Area}
use Rattle.history.specs.WellLaid.{table, string, table_number, Pointer, InString, InPart, WellLaid}
use Rattle.history.specs.Steps.Wp.{Memory, run_m_bind, ReadsValue, reads_then, reads_ret, reads_get8, reads_get32}
use Rattle.history.specs.Steps.View.{View, table-field, table-count, handler-tag, string_byte_at}
use Rattle.history.specs.Steps.Parts.{field_bounds, image_area, part-inside, entry-in_table}

-- a name on plain bytes
module _ (F : ℕ → ℕ) (n o : ℕ) where
  name-zero : F o ≡ 0 → (run_m (name_from (suc n) o) F).0 ≡ []
  unfolding name_from run_m ◌>>=◌
  name-zero e = rw (eq-eqb (F o) 0 e, run_m) refl

  name-more : F o ≢ 0 → (run_m (name_from (suc n) o) F).0 ≡ F o ∷ (run_m (name_from n (o ⊕ 1)) F).0
  unfolding name_from run_m ◌>>=◌
  name-more e =
      rw (ne_eqb (F o) 0 e, run_m)
      (ap (λ (r : List ℕ × Memory). r.0) (run_m_bind (name_from n (o ⊕ 1)) (λ rest. ret (F o ∷ rest)) F))

module _ (m : Image) (laid : WellLaid m) (low : Low (Area m)) where
  abbrev F : ℕ → ℕ
  F = m.file

  abbrev base : ℕ
  base = base_of m.load_call

  abbrev whole : ℕ
  whole = size_of m.load_call

  abbrev S : ℕ → Type 0
  S = Area m

  -- addresses of the image do not wrap
  pub plain-sum : (o : ℕ) → o < whole → base + o < 2 ^ 32
  plain-sum o l = low (base + o) (image_area m laid o l)

  pub four_at : (o : ℕ) → o + 4 ≤ whole → Four (Area m) (base + o)
  four_at o l k h = let e : base + (o + k) ≡ base + o + k = omega arith in rw e at (image_area m laid (o + k) (omega arith))

  pub moved_sum : (x : ℕ) → x ≢ 0 → x < whole → moved_offset base x ≡ base + x
  unfolding moved_offset
  moved_sum x n l = rw (ne_eqb x 0 n) (let h = plain-sum x l in omega (arith, h))

  -- entry i of a table, as an address
  pub entry-sum
      : (n i k : ℕ) → n < length tables → i < count F (table_number n) → entry F (table_number n) i + k < whole
      → entry_at (moved_offset base (start F (table_number n))) i (table_number n).width ⊕ k ≡ base + (entry F (table_number n) i + k)
  unfolding entry
  entry-sum n i k l h g = go (laid.alone.tables-inside n l)
    where
      go
          : (count F (table_number n) ≡ 0) ⊎ ((start F (table_number n) ≢ 0) × (entry F (table_number n) (count F (table_number n)) ≤ whole))
          → entry_at (moved_offset base (start F (table_number n))) i (table_number n).width ⊕ k ≡ base + (entry F (table_number n) i + k)
      go (inl e) = absurd (omega (arith, e))
      go (inr t) =
          let b = plain-sum (entry F (table_number n) i + k) g in
          rw (moved_sum (start F (table_number n)) t.0 (omega arith)) (omega (arith, b))

  pub entry_at_lem
      : (n i : ℕ) → n < length tables → i < count F (table_number n) → entry F (table_number n) i < whole
      → entry_at (moved_offset base (start F (table_number n))) i (table_number n).width ≡ base + entry F (table_number n) i
  entry_at_lem n i l h g = let e = entry-sum n i 0 l h (omega arith) in omega (arith, e)

  string_inside : (p o : ℕ) → Pointer F p → p ≢ 0 → InString F p o → o < whole
  unfolding InPart
  string_inside p o h z i = part-inside m laid (string p) o (h, z, i)

  module _ {M : Memory} (v : View m M) where
    -- a word of the header
    pub reads_field : (x : ℕ) {u : ℕ} → x + 4 ≤ 0x138 → word M (base + x) ≡ u → ReadsValue S (field base x) u M
    unfolding field
    reads_field x h e =
        let i = laid.alone.header-inside in
        let b = plain-sum x (omega (arith, i)) in
        let z : base ⊕ x ≡ base + x = omega (arith, b) in rw z (reads_get32 S (base + x) (four_at x (omega (arith, i))) e)

    count_is : (n : ℕ) → n < 9 → word M (base + ((table_number n).field + 4)) ≡ count F (table_number n)
    unfolding count
    count_is n l = v.kept ((table_number n).field + 4) (table-count n l)

    start_is : (n : ℕ) → n < 9 → word M (base + (table_number n).field) ≡ moved_offset base (start F (table_number n))
    unfolding start
    start_is n l = v.moved (table_number n).field (table-field n l)

    -- a table's count and its start
    pub reads_count : (n : ℕ) → n < 9 → ReadsValue S (field base ((table_number n).field + 4)) (count F (table_number n)) M
    reads_count n l = let b = field_bounds n l in reads_field ((table_number n).field + 4) (omega (arith, b)) (count_is n l)

    pub reads_start : (n : ℕ) → n < 9 → ReadsValue S (field base (table_number n).field) (moved_offset base (start F (table_number n))) M
    reads_start n l = let b = field_bounds n l in reads_field (table_number n).field (omega (arith, b)) (start_is n l)

    -- a segment's entry
    segment-inside : (i : ℕ) → i < count F segments → entry F segments i + 12 ≤ whole
    unfolding tables
    segment-inside i l =
        let e = part-inside m laid (table 0) (entry F segments i + 11) (entry-in_table F 0 i 11 (lit< tt) l (lit< tt)) in omega (arith, e)

    reads_word : (o : ℕ) {u : ℕ} → o + 4 ≤ whole → word M (base + o) ≡ u → ReadsValue S (get32 (base + o)) u M
    reads_word o l e = reads_get32 S (base + o) (four_at o l) e

    reads_entry
        : (i : ℕ) → i < count F segments
        → ReadsValue S (segment_entry (base + entry F segments i))
        (record { offset = segment_place m i; size = (file_segment F i).size; kind = (file_segment F i).kind }) M
    unfolding segment_entry
    reads_entry i l =
        let b = segment-inside i l in
        let t = plain-sum (entry F segments i + 11) (omega (arith, b)) in
        let e₄ : base + entry F segments i ⊕ 4 ≡ base + (entry F segments i + 4) = omega (arith, t) in
        let e₈ : base + entry F segments i ⊕ 8 ≡ base + (entry F segments i + 8) = omega (arith, t) in
        reads_then S (get32 (base + entry F segments i)) _ (segment_place m i) (reads_word (entry F segments i) (omega (arith, b)) (v.place i l))
        (rw (e₄, e₈)
        (reads_then S (get32 (base + (entry F segments i + 4))) _ (file_segment F i).size
        (reads_word (entry F segments i + 4) (omega (arith, b)) (v.size i l))
        (reads_then S (get32 (base + (entry F segments i + 8))) _ (word M (base + (entry F segments i + 8)))
        (reads_word (entry F segments i + 8) (omega (arith, b)) refl) (rw (v.kind i l) (reads_ret S _)))))

    pub reads_segment : (i : ℕ) → ReadsValue S (segment base i) (placed_segment m i) M
    unfolding segment placed_segment tables
    reads_segment i = reads_then S (field base segment_num) _ (count F segments) (reads_count 0 (lit< tt)) (go (dec_lt i (count F segments)))
      where
        go
            : Dec (i < count F segments)
            → ReadsValue S
            (if ltb i (count F segments) then (field base segment_table_offset >>= λ t. segment_entry (entry_at t i segment_entry_size) >>= λ s. ret
            (Some s))
            else ret None) (placed_segment m i) M
        go (yes l) =
            rw (lt-ltb i (count F segments) l)
            (reads_then S (field base segment_table_offset) _ (moved_offset base (start F segments)) (reads_start 0 (lit< tt))
            (rw (entry_at_lem 0 i (lit< tt) l (omega (arith, segment-inside i l)))
            (reads_then S (segment_entry (base + entry F segments i)) _ _ (reads_entry i l) (reads_ret S _))))
        go (no l) = rw (le-ltb i (count F segments) (omega arith)) (reads_ret S None)

    pub reads_address : (t : ℕ) → ReadsValue S (tag_to_address base t) (address m t) M
    unfolding tag_to_address address
    reads_address t =
        reads_then S (segment base (tag_segment t)) _ (placed_segment m (tag_segment t)) (reads_segment (tag_segment t)) (reads_ret S _)

    pub reads_handler : ReadsValue S (unresolved_symbol base) (handler m) M
    unfolding unresolved_symbol handler
    reads_handler =
        reads_then S (field base on_unresolved_segment_tag) _ (word F on_unresolved_segment_tag)
        (reads_field on_unresolved_segment_tag (lit≤ tt) (v.kept on_unresolved_segment_tag handler-tag))
        (reads_then S (tag_to_address base (word F on_unresolved_segment_tag)) _ (address m (word F on_unresolved_segment_tag))
        (reads_address (word F on_unresolved_segment_tag)) (reads_ret S _))

    -- a name, from offset o of the string at p on
    reads_from
        : (n p o : ℕ) → Pointer F p → p ≢ 0 → InString F p o → o + n ≡ p + 512 → ReadsValue S (name_from n (base + o)) (run_m (name_from n o) F).0 M
    unfolding name_from run_m
    reads_from zero p o h z i e = reads_ret S []
    reads_from (suc n) p o h z i e = go (ℕ_discrete (F o) 0) (reads_from n p (o + 1) h z)
      where
        inside : o < whole
        inside = string_inside p o h z i

        b : ReadsValue S (get8 (base + o)) (F o) M
        b = reads_get8 S (base + o) (image_area m laid o inside) (v.kept_byte o (string_byte_at p o h z i (omega arith)))

        go
            : Dec (F o ≡ 0) → (InString F p (o + 1) → o + 1 + n ≡ p + 512 → ReadsValue S (name_from n (base + (o + 1))) (run_m (name_from n (o + 1)) F).0 M)
            → ReadsValue S (get8 (base + o) >>= λ c. if eqb c 0 then ret [] else (name_from n (base + o ⊕ 1) >>= λ rest. ret (c ∷ rest)))
            (run_m (name_from (suc n) o) F).0 M
        go (yes c) r =
            rw (name-zero F n o c) (reads_then S (get8 (base + o)) _ (F o) b (rw (eq-eqb (F o) 0 c) (reads_ret S [])))
        go (no c) r =
            let i₁ : InString F p (o + 1) = (omega arith, λ x g l. elim (ℕ_discrete x o) [ yes y ↦ rw y c | no y ↦ i.1 x g (omega arith) ]) in
            let k = plain-sum (o + 1) (string_inside p (o + 1) h z i₁) in
            let e₁ : base + o ⊕ 1 ≡ base + (o + 1) = omega (arith, k) in
            let e₂ : o ⊕ 1 ≡ o + 1 = omega (arith, k) in
            rw (name-more F n o c, e₂)
            (reads_then S (get8 (base + o)) _ (F o) b
            (rw (ne_eqb (F o) 0 c, e₁) (reads_then S (name_from n (base + (o + 1))) _ _ (r i₁ (omega arith)) (reads_ret S _))))

    pub reads_name : (p : ℕ) → Pointer F p → ReadsValue S (name_at (moved_offset base p)) (name_of F p) M
    unfolding name_of name_at moved_offset run_m
    reads_name p h = go (ℕ_discrete p 0)
      where
        go : Dec (p ≡ 0) → ReadsValue S (name_at (moved_offset base p)) (run_m (name_at p) F).0 M
        go (yes e) = rw e (reads_ret S [])
        go (no n) =
            let i : InString F p p = (omega arith, λ x g l. absurd (omega arith)) in
            let k = moved_sum p n (string_inside p p h n i) in
            let b : base + p ≢ 0 = λ e. n (omega (arith, e)) in
            rw (k, ne_eqb (base + p) 0 b, ne_eqb p 0 n) (reads_from 512 p p h n i refl)
