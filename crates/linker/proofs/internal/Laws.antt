-- From the code's calls and branches to the programs of internal relocations.
use Rattle.std.proofs.Common.{◌≡◌, ℕ, ◌+◌, ◌<◌, ◌≤◌, sym, refl, ap, ◌∙◌, arith, le-ltb, lt-ltb, Option, Some, None}
use native.Mathlib.Decide.{dec_lt}
use Rattle.window.specs.Memory.{◌⊕◌}
use Rattle.window.specs.Access.{get8, get32}
use Rattle.window.specs.Loop.{loop}
use Rattle.window.specs.Trace.{State, run_t}
use Rattle.window.specs.TraceRuns.{gives, then_it}
use Rattle.window.specs.Silent.{silent_reads}
use Rattle.window.specs.Outside.{Idle, first_read, part_read, part_byte_read}
use Rattle.layout.specs.Header.{internal_relocation_table_offset, internal_relocation_num, relocation_entry_size}
use Rattle.layout.specs.Format.{relocation_type, tag_segment, tag_offset}
use Rattle.layout.specs.Segments.{field, entry_at, segment, segment_reads}
use Rattle.layout.specs.Relocation.Relocation.{apply_relocation}
use Rattle.layout.specs.declared.format.RelocationType.{RelocationType}
use Rattle.layout.specs.declared.format.Segment.{Segment}
use Rattle.linker_spec.specs.Relocation.{write_place, relocate_from, relocate_into, apply_internal_relocation, apply_internal_relocations}
use Rattle.linker.specs.Sources.Laws.{paired}
use Rattle.linker.proofs.relocation.Laws.{kind_0}

module _ (at base old entry : ℕ) (s : State) {tag y kind x symbol a addend n : ℕ} {into : Option Segment} {s₁ s₂ s₃ s₄ s₅ : State}
    (t : (tag, s₁) ≡ run_t at (get32 entry) s) (p : y ≡ entry ⊕ 4) (c : (kind, s₂) ≡ run_t at (get8 y) s₁) (q : x ≡ entry ⊕ 5)
    (k : (symbol, s₃) ≡ run_t at (get8 x) s₂) (b : a ≡ entry ⊕ 8) (d : (addend, s₄) ≡ run_t at (get32 a) s₃) (e : n ≡ tag_segment tag)
    (i : (into, s₅) ≡ run_t at (segment base n) s₄) where
  internal_is : {v : State} → v ≡ (run_t at (relocate_into base old into tag kind symbol addend) s₅).1 → v ≡ (run_t at (apply_internal_relocation base old entry) s).1
  unfolding apply_internal_relocation
  internal_is h =
      then_it at (get32 entry) s _ t
      (then_it at (get8 (entry ⊕ 4)) s₁ _ (c ∙ ap (λ p. run_t at (get8 p) s₁) p)
      (then_it at (get8 (entry ⊕ 5)) s₂ _ (k ∙ ap (λ p. run_t at (get8 p) s₂) q)
      (then_it at (get32 (entry ⊕ 8)) s₃ _ (d ∙ ap (λ p. run_t at (get32 p) s₃) b)
      (then_it at (segment base (tag_segment tag)) s₄ (λ r. relocate_into base old r tag kind symbol addend) (i ∙ ap (λ n. run_t at (segment base n) s₄) e) h))))

  pub into_missing : into ≡ None → s₅ ≡ (run_t at (apply_internal_relocation base old entry) s).1
  unfolding relocate_into run_t
  into_missing m = internal_is (rw (m, relocate_into, run_t))

  module _ (z : Segment) (f : into ≡ Some z) {offset : ℕ} (o : offset ≡ tag_offset tag) where
    pub into-past : z.size ≤ offset → s₅ ≡ (run_t at (apply_internal_relocation base old entry) s).1
    unfolding relocate_into run_t
    into-past l = internal_is (rw (f, relocate_into, ← o, le-ltb offset z.size l, run_t))

    module _ (l : offset < z.size) {from : Option Segment} {s₆ : State} (j : (from, s₆) ≡ run_t at (segment base symbol) s₅) where
      from_is
          : {v : State} → v ≡ (run_t at (relocate_from from (write_place z.kind old offset (z.offset ⊕ offset)) kind addend (z.offset ⊕ offset)) s₆).1
          → v ≡ (run_t at (apply_internal_relocation base old entry) s).1
      unfolding relocate_into
      from_is h =
          internal_is (rw (f, relocate_into, ← o, lt-ltb offset z.size l)
          (then_it at (segment base symbol) s₅
          (λ from. relocate_from from (write_place z.kind old offset (z.offset ⊕ offset)) kind addend (z.offset ⊕ offset)) j h))

      pub from_missing : from ≡ None → s₆ ≡ (run_t at (apply_internal_relocation base old entry) s).1
      unfolding relocate_from run_t
      from_missing m = from_is (rw (m, relocate_from, run_t))

      pub from_found
          : (g : Segment) {final target : ℕ} {r : RelocationType} {v : State} → from ≡ Some g → final ≡ z.offset ⊕ offset
          → target ≡ write_place z.kind old offset final → r ≡ relocation_type kind
          → v ≡ (run_t at (apply_relocation target r addend g.offset final) s₆).1 → v ≡ (run_t at (apply_internal_relocation base old entry) s).1
      unfolding relocate_from
      from_found g m ef et r u = from_is (rw (m, relocate_from, ← ef, ← et, ← r) u)

pub internal_starts
    : (at base old : ℕ) (s : State) {table count : ℕ} {s₁ s₂ : State} → (table, s₁) ≡ run_t at (field base internal_relocation_table_offset) s
    → (count, s₂) ≡ run_t at (field base internal_relocation_num) s₁
    → run_t at (loop (λ i _. apply_internal_relocation base old (entry_at table i relocation_entry_size)) 0 count tt) s₂
    ≡ run_t at (apply_internal_relocations base old) s
unfolding apply_internal_relocations
internal_starts at base old s {table} {s₁ = s₁} t n =
    gives at (field base internal_relocation_num) s₁
    (λ count. loop (λ i _. apply_internal_relocation base old (entry_at table i relocation_entry_size)) 0 count tt) n
    ∙ gives at (field base internal_relocation_table_offset) s _ t

-- once a touch is kept, an entry wholly outside has kind 0: two lookups, and nothing is written
pub internal_idle : (at base old : ℕ) → Idle at (apply_internal_relocation base old) relocation_entry_size
internal_idle at base old w t kept x out = into _ refl
  where
    s : State
    s = (w, t)

    look : ((run_t at (segment base 0) s).0, s) ≡ run_t at (segment base 0) s
    look = paired at (segment base 0) s (sym (silent_reads at (segment base 0) w t (segment_reads base 0) kept))

    tag : (0, s) ≡ run_t at (get32 x) s
    tag = first_read at w t kept x relocation_entry_size out (omega arith)

    byte : (k : ℕ) → k + 1 ≤ relocation_entry_size → (0, s) ≡ run_t at (get8 (x ⊕ k)) s
    byte k l = part_byte_read at w t kept x relocation_entry_size out k l

    addend : (0, s) ≡ run_t at (get32 (x ⊕ 8)) s
    addend = part_read at w t kept x relocation_entry_size out 8 (omega arith)

    from : (z : Segment) → (run_t at (segment base 0) s).0 ≡ Some z → 0 < z.size → s ≡ (run_t at (apply_internal_relocation base old x) s).1
    from z e l =
        from_found at base old x s tag refl (byte 4 (omega arith)) refl (byte 5 (omega arith)) refl addend refl look z e refl l look z e refl refl refl
        (kind_0 at _ 0 z.offset _ s)

    into : (f : Option Segment) → (run_t at (segment base 0) s).0 ≡ f → s ≡ (run_t at (apply_internal_relocation base old x) s).1
    into None e = into_missing at base old x s tag refl (byte 4 (omega arith)) refl (byte 5 (omega arith)) refl addend refl look e
    into (Some z) e = elim (dec_lt 0 z.size) [
      | yes l ↦ from z e l
      | no n ↦ into-past at base old x s tag refl (byte 4 (omega arith)) refl (byte 5 (omega arith)) refl addend refl look z e refl (omega arith)
    ]
