-- From the code's calls and branches to the programs of `Unrebase`.
use Rattle.std.proofs.Common.{◌≡◌, ℕ, ◌+◌, ◌-◌, ◌%◌, ◌^◌, ◌<◌, false, ap, ◌∙◌, arith, eq-eqb, ne_eqb, Option, Some, None}
use Rattle.window.specs.Access.{◌>>◌}
use Rattle.window.specs.Loop.{loop}
use Rattle.window.specs.Trace.{State, run_t}
use Rattle.window.specs.TraceRuns.{given, gives, then_it, two, left}
use Rattle.layout.specs.Header.{segment_num, fixed_size}
use Rattle.layout.specs.Tables.{pointer_tables}
use Rattle.layout.specs.Segments.{field, set_field, segment, set_segment}
use Rattle.layout.specs.declared.format.Segment.{Segment}
use Rattle.layout.specs.declared.format.SegmentType.{SegmentType}
use Rattle.layout.specs.declared.format.SegmentType.TheVariants.{Code, RoData, Data, Bss}
use Rattle.layout.proofs.Laws.{difference}
use Rattle.linker_spec.specs.Rebase.{move_header, at_offset, move_tables}
use Rattle.linker_spec.specs.Unrebase.{offset_back, leaves_as, unmove_found, unmove_segment, unmove_segments, unrebase}

module _ (base x : ℕ) where
  pub back_none : x ≡ 0 → 0 ≡ offset_back base x
  unfolding offset_back
  back_none z = rw (eq-eqb x 0 z)

  pub back_some : {r : ℕ} → (x ≡ 0 → ⊥) → r < 2 ^ 32 → (r + base) % 2 ^ 32 ≡ x → r ≡ offset_back base x
  unfolding offset_back
  back_some {r} n l e = rw (ne_eqb x 0 n) (difference r x base l e)

module _ (base : ℕ) (s : Segment) {k : SegmentType} {z : Segment} where
  module _ {x : ℕ} (e : x ≡ offset_back base s.offset) (h : z ≡ at_offset s x) where
    pub leaves_code : k ≡ Code → z ≡ leaves_as base s k
    unfolding leaves_as
    leaves_code c = rw c (h ∙ ap (at_offset s) e)

    pub leaves_rodata : k ≡ RoData → z ≡ leaves_as base s k
    unfolding leaves_as
    leaves_rodata c = rw c (h ∙ ap (at_offset s) e)

    pub leaves_data : k ≡ Data → z ≡ leaves_as base s k
    unfolding leaves_as
    leaves_data c = rw c (h ∙ ap (at_offset s) e)

  pub leaves_bss : z ≡ at_offset s 0 → k ≡ Bss → z ≡ leaves_as base s k
  unfolding leaves_as
  leaves_bss h c = rw c h

module _ (at base i : ℕ) (s : State) {found : Option Segment} {s₁ : State} (e : (found, s₁) ≡ run_t at (segment base i) s) where
  unmove_is : {v : State} → v ≡ (run_t at (unmove_found base i found) s₁).1 → v ≡ (run_t at (unmove_segment base i) s).1
  unfolding unmove_segment
  unmove_is h = then_it at (segment base i) s (unmove_found base i) e h

  pub unmove_passed : found ≡ None → s₁ ≡ (run_t at (unmove_segment base i) s).1
  unfolding unmove_found
  unmove_passed m = unmove_is (rw (m, unmove_found) (ap left (given at tt s₁)))

  pub unmoved
      : {z y : Segment} {v : State} → found ≡ Some z → y ≡ leaves_as base z z.kind → v ≡ (run_t at (set_segment base i y) s₁).1
      → v ≡ (run_t at (unmove_segment base i) s).1
  unfolding unmove_found
  unmoved m l h = unmove_is (rw (m, unmove_found, ← l) h)

pub unmove_starts
    : (at base : ℕ) (s : State) {n : ℕ} {s₁ : State} → (n, s₁) ≡ run_t at (field base segment_num) s
    → run_t at (loop (λ i _. unmove_segment base i) 0 (n - 0) tt) s₁ ≡ run_t at (unmove_segments base) s
unfolding unmove_segments
unmove_starts at base s {n} e =
    let z : n - 0 ≡ n = omega arith in rw z (gives at (field base segment_num) s (λ n. loop (λ i _. unmove_segment base i) 0 n tt) e)

pub unrebased
    : (at base : ℕ) (s : State) {s₁ s₂ s₃ v : State} → s₁ ≡ (run_t at (move_tables false base pointer_tables) s).1
    → s₂ ≡ (run_t at (unmove_segments base) s₁).1 → s₃ ≡ (run_t at (move_header false base) s₂).1 → v ≡ (run_t at (set_field base fixed_size 0) s₃).1
    → v ≡ (run_t at (unrebase base) s).1
unfolding unrebase
unrebased at base s {s₁} {s₂} {s₃} a b c d =
    let last = set_field base fixed_size 0 in
    let header = move_header false base >> last in
    two at (move_tables false base pointer_tables) s (unmove_segments base >> header) a
    (two at (unmove_segments base) s₁ header b (two at (move_header false base) s₂ last c d))
