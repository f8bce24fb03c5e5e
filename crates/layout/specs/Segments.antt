-- Header fields, segments and the addresses that tags give, as programs of accesses in the order of cro/mod.rs.
use Rattle.std.specs.Prelude.{if◌then◌else◌, ◌≡◌, ℕ, ◌+◌, ◌*◌, ◌%◌, ◌^◌, ◌<◌, ◌≤◌, Bool, true, false, List, nat_lt, Option, Some, None}
use Rattle.std.proofs.Math.Path.{refl, ap}
use Rattle.std.proofs.Common.{◌∙◌}
use borrow.Author.Tests.{lt-ltb, le-ltb}
use Rattle.window.specs.Memory.{◌⊕◌, word_at, put_word}
use Rattle.window.specs.Access.{Prog, ret, ◌>>=◌, ◌>>◌, get32, put32, run, run_bind, Reads, reads_bind}
use Rattle.layout.specs.Header.{segment_num, segment_table_offset, segment_entry_size}
use Rattle.layout.specs.Format.{segment_type, segment_type_number, tag_segment, tag_offset}
use Rattle.layout.specs.declared.format.Segment.{Segment}

-- "Header and entry sizes are that file's constants": the word at x of the header of the module at base
unfoldable pub field : ℕ → ℕ → Prog ℕ
field base x = get32 (base ⊕ x)

unfoldable pub set_field : (base x v : ℕ) → Prog (Unit {0})
set_field base x v = put32 (base ⊕ x) v

-- "32-bit sums and products wrap": entry i of a table
abbrev pub entry_at : (table i size : ℕ) → ℕ
entry_at table i size = (table + i * size) % 2 ^ 32

-- the three words of a segment's entry, read and written back
unfoldable pub segment_entry : ℕ → Prog Segment
segment_entry e = do
  offset ← get32 e
  size ← get32 (e ⊕ 4)
  kind ← get32 (e ⊕ 8)
  ret (record { offset = offset; size = size; kind = segment_type kind })

unfoldable pub set_segment_entry : ℕ → Segment → Prog (Unit {0})
set_segment_entry e s = do
  put32 e s.offset
  put32 (e ⊕ 4) s.size
  put32 (e ⊕ 8) (segment_type_number s.kind)

-- "A segment lookup reads count, table offset and entry anew each time."
unfoldable pub segment : ℕ → ℕ → Prog (Option Segment)
segment base i = do
  count ← field base segment_num
  if nat_lt i count then (do
    table ← field base segment_table_offset
    s ← segment_entry (entry_at table i segment_entry_size)
    ret (Some s)) else ret None

-- the write back: it reads the table offset anew too
unfoldable pub set_segment : ℕ → ℕ → Segment → Prog (Unit {0})
set_segment base i s = do
  table ← field base segment_table_offset
  set_segment_entry (entry_at table i segment_entry_size) s

-- "It gives an address if the segment exists and offset < size."
unfoldable pub address_in : Option Segment → ℕ → Option ℕ
address_in (Some s) x = if nat_lt x s.size then Some (s.offset ⊕ x) else None
address_in None x = None

unfoldable pub tag_to_address : ℕ → ℕ → Prog (Option ℕ)
tag_to_address base tag = do
  s ← segment base (tag_segment tag)
  ret (address_in s (tag_offset tag))

-- what they give, and what they leave

pub reads_if : {A : Type 0} (b : Bool) (p q : Prog A) → Reads p → Reads q → Reads (if b then p else q)
reads_if true p q h g = h
reads_if false p q h g = g

module _ (at base x : ℕ) (w : List ℕ) where
  pub field-word : (run at (field base x) w).0 ≡ word_at at w (base ⊕ x)
  unfolding field run
  field-word = refl

  pub set_field-word : (v : ℕ) → (run at (set_field base x v) w).1 ≡ put_word at w (base ⊕ x) v
  unfolding set_field run
  set_field-word v = refl

pub field_reads : (base x : ℕ) → Reads (field base x)
unfolding field Reads
field_reads base x = λ v. tt

-- where the entry of segment i stands, and what stands there
abbrev pub segment_place : (at : ℕ) → List ℕ → (base i : ℕ) → ℕ
segment_place at w base i = entry_at (word_at at w (base ⊕ segment_table_offset)) i segment_entry_size

abbrev pub segment_at : ℕ → List ℕ → ℕ → Segment
segment_at at w e =
    record { offset = word_at at w e; size = word_at at w (e ⊕ 4); kind = segment_type (word_at at w (e ⊕ 8)) }

abbrev pub put_segment : ℕ → List ℕ → ℕ → Segment → List ℕ
put_segment at w e s =
    put_word at (put_word at (put_word at w e s.offset) (e ⊕ 4) s.size) (e ⊕ 8) (segment_type_number s.kind)

module _ (at base i : ℕ) (w : List ℕ) where
  pub segment_missing : word_at at w (base ⊕ segment_num) ≤ i → (run at (segment base i) w).0 ≡ None
  unfolding segment field run ◌>>=◌
  segment_missing h = rw (le-ltb i (word_at at w (base ⊕ segment_num)) h, run)

  pub segment-found
      : i < word_at at w (base ⊕ segment_num) → (run at (segment base i) w).0 ≡ Some (segment_at at w (segment_place at w base i))
  unfolding segment segment_entry field run ◌>>=◌
  segment-found h = rw (lt-ltb i (word_at at w (base ⊕ segment_num)) h, run)

  pub set_segment-words : (s : Segment) → (run at (set_segment base i s) w).1 ≡ put_segment at w (segment_place at w base i) s
  unfolding set_segment set_segment_entry field run ◌>>=◌
  set_segment-words s = refl

pub segment_reads : (base i : ℕ) → Reads (segment base i)
unfolding segment segment_entry field Reads ◌>>=◌
segment_reads base i = λ n. reads_if (nat_lt i n) _ _ (λ t o s k. tt) tt

module _ (at base tag : ℕ) (w : List ℕ) where
  tag_in : (run at (tag_to_address base tag) w).0 ≡ address_in (run at (segment base (tag_segment tag)) w).0 (tag_offset tag)
  unfolding tag_to_address run
  tag_in =
      ap (λ (r : Option ℕ × List ℕ). r.0) (run_bind at (segment base (tag_segment tag)) (λ s. ret (address_in s (tag_offset tag))) w)

  pub tag_missing : (run at (segment base (tag_segment tag)) w).0 ≡ None → (run at (tag_to_address base tag) w).0 ≡ None
  unfolding address_in
  tag_missing e = tag_in ∙ rw (e, address_in)

  pub tag-past
      : {s : Segment} → (run at (segment base (tag_segment tag)) w).0 ≡ Some s → s.size ≤ tag_offset tag
      → (run at (tag_to_address base tag) w).0 ≡ None
  unfolding address_in
  tag-past {s} e h = tag_in ∙ rw (e, address_in, le-ltb (tag_offset tag) s.size h)

  pub tag_at
      : {s : Segment} → (run at (segment base (tag_segment tag)) w).0 ≡ Some s → tag_offset tag < s.size
      → (run at (tag_to_address base tag) w).0 ≡ Some (s.offset ⊕ tag_offset tag)
  unfolding address_in
  tag_at {s} e h = tag_in ∙ rw (e, address_in, lt-ltb (tag_offset tag) s.size h)

pub tag_to_address_reads : (base tag : ℕ) → Reads (tag_to_address base tag)
unfolding tag_to_address Reads
tag_to_address_reads base tag =
    reads_bind (segment base (tag_segment tag)) (λ s. ret (address_in s (tag_offset tag))) (segment_reads base (tag_segment tag)) (λ s. tt)
