-- A segment whose entry lies wholly outside, once a touch is kept: it is found empty or not at all, and what is written back is dropped.
use Rattle.std.proofs.Common.{◌≡◌, ℕ, ◌+◌, ◌-◌, ◌<◌, true, List, length, sym, refl, ap, ◌∙◌, arith, Option, Some, None}
use native.Mathlib.Decide.{dec_lt}
use Rattle.window.specs.Memory.{◌⊕◌, word_at}
use Rattle.window.specs.Loop.{loop}
use Rattle.window.specs.Trace.{State, said, run_t}
use Rattle.window.specs.Silent.{reads_run_t, silent_reads}
use Rattle.window.specs.Outside.{AllOutside, silent_stride, first-zero, part-zero, first_dropped, part_dropped, stride_made}
use Rattle.layout.specs.Header.{segment_num, segment_table_offset, segment_entry_size}
use Rattle.layout.specs.Format.{segment_type}
use Rattle.layout.specs.Segments.{field, field-word, field_reads, segment, segment_reads, segment_place, segment_at, segment_missing, segment-found, set_segment}
use Rattle.layout.specs.declared.format.Segment.{Segment}
use Rattle.layout.specs.declared.format.SegmentType.TheVariants.{Code}
use Rattle.layout.proofs.Accesses.{segment-set}
use Rattle.linker_spec.specs.declared.rebase.LoadArguments.{LoadArguments}
use Rattle.linker_spec.specs.Rebase.{move_segment}
use Rattle.linker_spec.specs.Unrebase.{unmove_segment, leaves_as}
use Rattle.linker.specs.Sources.Laws.{paired}
use Rattle.linker.proofs.rebase.Laws.{moved_none, place_code, back-put, segment-passed, segment-moved}
use Rattle.linker.proofs.unrebase.Laws.{unmove_passed, unmoved}

abbrev empty : Segment
empty = record { offset = 0; size = 0; kind = Code }

module _ (at base i : ℕ) (w t : List ℕ) (kept : said t ≡ true)
    (out : AllOutside at (length w) (segment_place at w base i) segment_entry_size) where
  abbrev s : State
  s = (w, t)

  abbrev entry : ℕ
  entry = segment_place at w base i

  entry-empty : segment_at at w entry ≡ empty
  unfolding segment_type
  entry-empty =
      rw (
        first-zero at w entry segment_entry_size out (omega arith),
        part-zero at w entry segment_entry_size out 4 (omega arith),
        part-zero at w entry segment_entry_size out 8 (omega arith),
      )

  -- by what the lookup finds
  found_cases
      : (P : Option Segment → Type 0) → ((None, s) ≡ run_t at (segment base i) s → P None)
      → ((Some empty, s) ≡ run_t at (segment base i) s → P (Some empty)) → (f : Option Segment) × P f
  found_cases P missing found =
      let r = (reads_run_t at (segment base i) s (segment_reads base i)).0 in
      let k = paired at (segment base i) s (sym (silent_reads at (segment base i) w t (segment_reads base i) kept)) in
      elim (dec_lt i (word_at at w (base ⊕ segment_num))) [
        | yes l ↦ (Some empty, found (ap (λ f. (f, s)) (sym (r ∙ segment-found at base i w l ∙ ap Some entry-empty)) ∙ k))
        | no l ↦ (None, missing (ap (λ f. (f, s)) (sym (r ∙ segment_missing at base i w (omega arith))) ∙ k))
      ]

  table_read : (word_at at w (base ⊕ segment_table_offset), s) ≡ run_t at (field base segment_table_offset) s
  table_read =
      let f = field base segment_table_offset in
      let r = (reads_run_t at f s (field_reads base segment_table_offset)).0 in
      ap (λ v. (v, s)) (sym (r ∙ field-word at base segment_table_offset w))
      ∙ paired at f s (sym (silent_reads at f w t (field_reads base segment_table_offset) kept))

  set_dropped : (d : Segment) → s ≡ (run_t at (set_segment base i d) s).1
  set_dropped d =
      segment-set at base i d s table_read refl (first_dropped at w t kept entry segment_entry_size out d.offset (omega arith)) refl
      (part_dropped at w t kept entry segment_entry_size out 4 d.size (omega arith)) refl refl
      (part_dropped at w t kept entry segment_entry_size out 8 _ (omega arith))

  unmove_idle : s ≡ (run_t at (unmove_segment base i) s).1
  unmove_idle =
      (found_cases (λ f. s ≡ (run_t at (unmove_segment base i) s).1) (λ h. unmove_passed at base i s h refl)
      (λ h. unmoved at base i s h refl refl (set_dropped (leaves_as base empty Code)))).1

move_idle
    : (at : ℕ) (l : LoadArguments) (old i : ℕ) (w t : List ℕ) → said t ≡ true
    → AllOutside at (length w) (segment_place at w l.base i) segment_entry_size
    → (Some old, (w, t)) ≡ run_t at (move_segment l i (Some old)) (w, t)
move_idle at l old i w t kept out =
    let s : State = (w, t) in
    (found_cases at l.base i w t kept out (λ f. (Some old, s) ≡ run_t at (move_segment l i (Some old)) s)
    (λ h. segment-passed at l i old s h refl)
    (λ h. segment-moved at l i old s h refl (place_code l empty old refl (moved_none l empty old refl))
    (back-put at l.base i s refl (set_dropped at l.base i w t kept out empty)))).1

-- a turn made, a stride passes over those wholly outside
module _ (at i n : ℕ) (w t : List ℕ) (h : i < n) where
  pub moved-past
      : (l : LoadArguments) (old : ℕ) {k : ℕ} {r : Option ℕ × State} → run_t at (loop (move_segment l) (i + 1) (n - (i + 1)) (Some old)) (w, t) ≡ r
      → k ≡ silent_stride at (length w) t (segment_place at w l.base i) segment_entry_size (n - i)
      → run_t at (loop (move_segment l) (i + k) (n - (i + k)) (Some old)) (w, t) ≡ r
  moved-past l old rest k =
      stride_made at (move_segment l) (word_at at w (l.base ⊕ segment_table_offset)) segment_entry_size (Some old) i n w t rest h refl k
      (λ y j out. move_idle at l old j w t y out)

  pub unmoved-past
      : (base : ℕ) {k : ℕ} {r : Unit {0} × State} → run_t at (loop (λ i _. unmove_segment base i) (i + 1) (n - (i + 1)) tt) (w, t) ≡ r
      → k ≡ silent_stride at (length w) t (segment_place at w base i) segment_entry_size (n - i)
      → run_t at (loop (λ i _. unmove_segment base i) (i + k) (n - (i + k)) tt) (w, t) ≡ r
  unmoved-past base rest k =
      stride_made at (λ i _. unmove_segment base i) (word_at at w (base ⊕ segment_table_offset)) segment_entry_size tt i n w t rest h refl k
      (λ y j out. ap (λ u. (tt, u)) (unmove_idle at base j w t y out))
