-- Session files, judged by computation: the decisions A40 to A45, and both sides of the limits that are short enough.
use Rattle.std.specs.Prelude.{ℕ, ◌≡◌, refl, List, [], ◌∷◌, Bool, true, false, replicate, Some}
use Rattle.window.specs.Bytes.{byte_of}
use Rattle.register.specs.Words.{part, words_in, flat, bytes_of, all_zero}
use Rattle.linker_spec.specs.declared.call.Call.TheVariants.{Initialize, Load, Unload}
use Rattle.session.specs.Head.{head_word}
use Rattle.session.specs.Steps.{step_word, step_of, step_at}
use Rattle.session.specs.File.{are_steps, is_session}

-- "file 20 to 49,152"; a session of no steps is valid (A42), and so is an empty window (A43)
pub shortest : (is_session [] ≡ false) × (is_session (replicate 19 0) ≡ false) × (is_session (replicate 20 0) ≡ true)
unfolding is_session are_steps head_word words_in
shortest = (refl, refl, refl)

-- the five words of a head, and no step
abbrev head_of : (count table size offset : ℕ) → List ℕ
head_of count table size offset = flat (count ∷ table ∷ 0x1000 ∷ size ∷ offset ∷ [])

-- inside means offset + size ≤ file length, exactly, for empty parts too (A41)
pub empty-table : (is_session (head_of 0 20 0 0) ≡ true) × (is_session (head_of 0 21 0 0) ≡ false) × (is_session (head_of 0 99 0 0) ≡ false)
unfolding is_session are_steps head_word words_in flat bytes_of byte_of
empty-table = (refl, refl, refl)

pub window_inside : (is_session (head_of 0 0 20 0) ≡ true) × (is_session (head_of 0 0 21 0) ≡ false) × (is_session (head_of 0 0 0 21) ≡ false)
unfolding is_session are_steps head_word words_in flat bytes_of byte_of
window_inside = (refl, refl, refl)

pub step-inside : is_session (head_of 1 20 0 0) ≡ false
unfolding is_session are_steps head_word words_in flat bytes_of byte_of
step-inside = refl

-- one step after the head, and a window that overlaps both (A40)
abbrev stepped : (call size dataSegment auto level : ℕ) → List ℕ
stepped call size dataSegment auto level =
    flat (1 ∷ 20 ∷ 0x1000 ∷ 56 ∷ 0 ∷ call ∷ 0x2000 ∷ size ∷ dataSegment ∷ 0 ∷ 0 ∷ 0 ∷ auto ∷ level ∷ [])

abbrev judged : (call size dataSegment auto level : ℕ) → Bool
judged call size dataSegment auto level = is_session (stepped call size dataSegment auto level)

-- "calls 1 to 3"
pub calls
    : (judged 0 0 0 0 0 ≡ false) × (judged 1 0 0 0 0 ≡ true) × (judged 2 0 0 0 0 ≡ true) × (judged 3 0 0 0 0 ≡ true) × (judged 4 0 0 0 0 ≡ false)
unfolding is_session are_steps step_at step_of step_word head_word all_zero part words_in flat bytes_of byte_of
calls = (refl, refl, refl, refl, refl)

-- unused words are six for initialize, from data on, and seven for unload, from size on (A44)
pub unused : (judged 1 0x100 0 0 0 ≡ true) × (judged 1 0 4 0 0 ≡ false) × (judged 1 0 0 0 1 ≡ false) × (judged 3 0x100 0 0 0 ≡ false)
unfolding is_session are_steps step_at step_of step_word head_word all_zero part words_in flat bytes_of byte_of
unused = (refl, refl, refl, refl)

-- a load's auto-link word of 2 is accepted (A45)
pub auto_2 : judged 2 0x100 0 2 0 ≡ true
unfolding is_session are_steps step_at step_of step_word head_word all_zero part words_in flat bytes_of byte_of
auto_2 = refl

pub read : (step_at (stepped 1 0x100 0 0 0) 0 ≡ Some (Initialize 0x2000 0x100)) × (step_at (stepped 3 0 0 0 0) 0 ≡ Some (Unload 0x2000))
    × (step_at (stepped 2 0x100 0x3000 1 2) 0
    ≡ Some (Load (record { base = 0x2000; size = 0x100; data_segment = 0x3000; data_segment_size = 0; bss_segment = 0; bss_segment_size = 0 }) 1 2))
unfolding step_at step_of step_word head_word all_zero part words_in flat bytes_of byte_of
read = (refl, refl, refl)
