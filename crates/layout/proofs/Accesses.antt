-- From the code's accesses to the programs of `Segments`.
use Rattle.std.proofs.Common.{◌≡◌, ℕ, ◌<◌, ◌≤◌, ap, ◌∙◌, le-ltb, lt-ltb, Option, Some, None}
use Rattle.window.specs.Memory.{◌⊕◌}
use Rattle.window.specs.Access.{ret, get32, put32}
use Rattle.window.specs.Trace.{State, run_t}
use Rattle.window.specs.TraceRuns.{given, gives, then_it, two, on_true, on_false}
use Rattle.layout.specs.Header.{segment_num, segment_table_offset, segment_entry_size}
use Rattle.layout.specs.Format.{segment_type, segment_type_number, tag_segment, tag_offset}
use Rattle.layout.specs.Segments.{field, set_field, entry_at, segment_entry, set_segment_entry, segment, set_segment, address_in, tag_to_address}
use Rattle.layout.specs.declared.format.Segment.{Segment}
use Rattle.layout.specs.declared.format.SegmentType.{SegmentType}

-- an access at a sum that the code made first
module _ (at : ℕ) (s : State) {p q : ℕ} (e : p ≡ q) where
  pub read_there : {r : ℕ × State} → r ≡ run_t at (get32 p) s → r ≡ run_t at (get32 q) s
  read_there h = h ∙ ap (λ p. run_t at (get32 p) s) e

  pub write_there : (v : ℕ) {u : State} → u ≡ (run_t at (put32 p v) s).1 → u ≡ (run_t at (put32 q v) s).1
  write_there v h = h ∙ ap (λ p. (run_t at (put32 p v) s).1) e

module _ (at base x : ℕ) (s : State) {p : ℕ} (e : p ≡ base ⊕ x) where
  pub field_read : {r : ℕ × State} → r ≡ run_t at (get32 p) s → r ≡ run_t at (field base x) s
  unfolding field
  field_read = read_there at s e

  pub field-set : (v : ℕ) {u : State} → u ≡ (run_t at (put32 p v) s).1 → u ≡ (run_t at (set_field base x v) s).1
  unfolding set_field
  field-set = write_there at s e

-- a segment's entry, read and written word by word

pub entry_read
    : (at e : ℕ) (s : State) {offset size word p₄ p₈ : ℕ} {kind : SegmentType} {s₁ s₂ s₃ : State} → (offset, s₁) ≡ run_t at (get32 e) s
    → p₄ ≡ e ⊕ 4 → (size, s₂) ≡ run_t at (get32 p₄) s₁ → p₈ ≡ e ⊕ 8 → (word, s₃) ≡ run_t at (get32 p₈) s₂
    → kind ≡ segment_type word → (record { offset = offset; size = size; kind = kind }, s₃) ≡ run_t at (segment_entry e) s
unfolding segment_entry
entry_read at e s {offset} {size} {word} {s₁ = s₁} {s₂} {s₃} h e₄ h₄ e₈ h₈ ek =
    rw ek (given at (record { offset = offset; size = size; kind = segment_type word }) s₃)
    ∙ gives at (get32 (e ⊕ 8)) s₂ (λ k. ret (record { offset = offset; size = size; kind = segment_type k })) (read_there at s₂ e₈ h₈)
    ∙ gives at (get32 (e ⊕ 4)) s₁ _ (read_there at s₁ e₄ h₄)
    ∙ gives at (get32 e) s _ h

module _ (at base i : ℕ) (s : State) {count : ℕ} {s₁ : State} (h : (count, s₁) ≡ run_t at (field base segment_num) s) where
  pub segment-past : count ≤ i → (None, s₁) ≡ run_t at (segment base i) s
  unfolding segment
  segment-past l =
      on_false at s₁ _ (ret None) (le-ltb i count l) (given at None s₁) ∙ gives at (field base segment_num) s _ h

  pub segment-there
      : i < count → {table entry : ℕ} {d : Segment} {s₂ s₃ : State} → (table, s₂) ≡ run_t at (field base segment_table_offset) s₁
      → entry ≡ entry_at table i segment_entry_size → (d, s₃) ≡ run_t at (segment_entry entry) s₂ → (Some d, s₃) ≡ run_t at (segment base i) s
  unfolding segment
  segment-there l {d = d} {s₂} {s₃} t e g =
      on_true at s₁ _ (ret None) (lt-ltb i count l)
      (given at (Some d) s₃
      ∙ gives at (segment_entry _) s₂ (λ d. ret (Some d)) (g ∙ ap (λ e. run_t at (segment_entry e) s₂) e)
      ∙ gives at (field base segment_table_offset) s₁ _ t)
      ∙ gives at (field base segment_num) s _ h

pub segment-set
    : (at base i : ℕ) (d : Segment) (s : State) {table entry p₄ p₈ word : ℕ} {s₁ s₂ s₃ s₄ : State}
    → (table, s₁) ≡ run_t at (field base segment_table_offset) s → entry ≡ entry_at table i segment_entry_size
    → s₂ ≡ (run_t at (put32 entry d.offset) s₁).1 → p₄ ≡ entry ⊕ 4 → s₃ ≡ (run_t at (put32 p₄ d.size) s₂).1
    → p₈ ≡ entry ⊕ 8 → word ≡ segment_type_number d.kind → s₄ ≡ (run_t at (put32 p₈ word) s₃).1
    → s₄ ≡ (run_t at (set_segment base i d) s).1
unfolding set_segment set_segment_entry
segment-set at base i d s {entry = entry} {s₁ = s₁} {s₂} {s₃} t e h₂ e₄ h₃ e₈ ew h₄ =
    then_it at (field base segment_table_offset) s (λ t. set_segment_entry (entry_at t i segment_entry_size) d) t
    (two at (put32 entry d.offset) s₁ _ h₂
    (two at (put32 (entry ⊕ 4) d.size) s₂ (put32 (entry ⊕ 8) (segment_type_number d.kind)) (write_there at s₂ e₄ d.size h₃)
    (write_there at s₃ e₈ (segment_type_number d.kind) (rw ew at h₄)))
    ∙ ap (λ e. (run_t at (set_segment_entry e d) s₁).1) e)

-- the address of a tag

module _ (at base tag : ℕ) (s : State) {j : ℕ} {r : Option Segment} {s₁ : State} (ej : j ≡ tag_segment tag)
    (h : (r, s₁) ≡ run_t at (segment base j) s) where
  tag_in : (address_in r (tag_offset tag), s₁) ≡ run_t at (tag_to_address base tag) s
  unfolding tag_to_address
  tag_in =
      given at (address_in r (tag_offset tag)) s₁
      ∙ gives at (segment base (tag_segment tag)) s (λ r. ret (address_in r (tag_offset tag)))
      (h ∙ ap (λ j. run_t at (segment base j) s) ej)

  pub tag_nowhere : r ≡ None → (None, s₁) ≡ run_t at (tag_to_address base tag) s
  unfolding address_in
  tag_nowhere e = rw (e, address_in) at tag_in

  module _ (d : Segment) (e : r ≡ Some d) {x : ℕ} (ex : x ≡ tag_offset tag) where
    pub tag-past_end : d.size ≤ x → (None, s₁) ≡ run_t at (tag_to_address base tag) s
    unfolding address_in
    tag-past_end l = rw (e, address_in, ← ex, le-ltb x d.size l) at tag_in

    pub tag-there : {a : ℕ} → x < d.size → a ≡ d.offset ⊕ x → (Some a, s₁) ≡ run_t at (tag_to_address base tag) s
    unfolding address_in
    tag-there l ea = rw ea (rw (e, address_in, ← ex, lt-ltb x d.size l) at tag_in)
