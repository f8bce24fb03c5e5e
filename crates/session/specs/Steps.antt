-- A step of a session file.
use Rattle.std.specs.Prelude.{if◌then◌else◌, ℕ, ◌+◌, ◌*◌, List, [], ◌∷◌, get_or, eqb, Option, Some, None}
use Rattle.register.specs.Words.{part, words_in, all_zero}
use Rattle.linker_spec.specs.declared.call.Call.{Call}
use Rattle.linker_spec.specs.declared.call.Call.TheVariants.{Initialize, Load, Unload}
use Rattle.session.specs.Head.{step_table}

-- "A step is 9 words": word i of step k, of at most 64 steps
unfoldable pub step_word : List ℕ → ℕ → ℕ → ℕ
step_word file k i = get_or (words_in (part file (step_table file) (36 * 64))) (9 * k + i) 0

-- "1 initialize, 2 load or 3 unload, then base, size, data, data size, bss, bss size, auto-link, fix level, unused ones 0"
unfoldable pub step_of : (call base size dataSegment dataSegmentSize bssSegment bssSegmentSize auto level : ℕ) → Option Call
step_of call base size dataSegment dataSegmentSize bssSegment bssSegmentSize auto level =
    if eqb call 1
    then (if all_zero (dataSegment ∷ dataSegmentSize ∷ bssSegment ∷ bssSegmentSize ∷ auto ∷ level ∷ []) then Some (Initialize base size) else None)
    else (if eqb call 2
    then Some
    (Load
    (record { base = base; size = size; data_segment = dataSegment; data_segment_size = dataSegmentSize; bss_segment = bssSegment; bss_segment_size = bssSegmentSize })
    auto level)
    else (if eqb call 3
    then (if all_zero (size ∷ dataSegment ∷ dataSegmentSize ∷ bssSegment ∷ bssSegmentSize ∷ auto ∷ level ∷ []) then Some (Unload base) else None)
    else None))

unfoldable pub step_at : List ℕ → ℕ → Option Call
step_at file k =
    let w = step_word file k in
    step_of (w 0) (w 1) (w 2) (w 3) (w 4) (w 5) (w 6) (w 7) (w 8)
