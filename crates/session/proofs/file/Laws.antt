-- What the code of `session::file` finds, test by test: the steps of a table, and the judgement.
use Rattle.std.specs.Prelude.{Option, is_some}
use Prim.Native.Nat.{ℕ, zero, suc, ◌+◌, ◌<◌}
use mathlib.Core.Logic.{inl, inr}
use mathlib.Core.Path.{◌≡◌}
use mathlib.Core.List.{List}
use mathlib.Core.Bool.{Bool, true, false, ◌&&◌, and-false, and_assoc}
use native.Mathlib.Omega.{arith}
use native.Mathlib.Nat.{eq-or-lt_of_le}
use native.Mathlib.Numerals.{add-one}
use lib.ListN.{length}
use lib.Dec.{leb}
use Rattle.linker_spec.specs.declared.call.Call.{Call}
use Rattle.session.specs.Head.{head_word}
use Rattle.session.proofs.head.Laws.{parts}
use Rattle.session.specs.Steps.{step_at}
use Rattle.session.specs.File.{are_steps, is_session}

-- once a step is no call, the steps are not all calls
pub step_bad : (file : List ℕ) (k count : ℕ) {step : Option Call} → k < count → step ≡ step_at file k → is_some step ≡ false → false ≡ are_steps file count
unfolding are_steps
step_bad file k zero h s e = absurd (omega arith)
step_bad file k (suc n) h s e =
    elim (eq-or-lt_of_le {n = k} {m = n} (omega arith))
    [ inl z ↦ rw (← z, ← s, e, and-false (are_steps file k)) | inr l ↦ rw (← step_bad file k n l s e) ]

pub step_on : (file : List ℕ) (k : ℕ) {step : Option Call} → are_steps file k ≡ true → step ≡ step_at file k → is_some step ≡ true → are_steps file (k + 1) ≡ true
unfolding are_steps
step_on file k z s e = rw (add-one, z, ← s, e)

-- the judgement, with its tests in three groups
abbrev limits : List ℕ → Bool
limits file = leb 20 (length file) && (leb (length file) 49152 && (leb (head_word file 0) 64 && leb (head_word file 3) 32768))

groups : (file : List ℕ) → limits file && (parts file && are_steps file (head_word file 0)) ≡ is_session file
unfolding is_session
groups file = simp and_assoc

module _ (file : List ℕ) {within : Bool} (limited : within ≡ limits file) where
  pub past-limits : within ≡ false → false ≡ is_session file
  past-limits z = rw (← groups file, ← limited, z)

  module _ (i : within ≡ true) {inside : Bool} (placed : inside ≡ parts file) where
    pub part-outside : inside ≡ false → false ≡ is_session file
    part-outside z = rw (← groups file, ← limited, i, ← placed, z)

    pub steps-left : inside ≡ true → {count : ℕ} {t : Bool} → count ≡ head_word file 0 → t ≡ are_steps file count → t ≡ is_session file
    steps-left j n s = rw (← groups file, ← limited, i, ← placed, j, ← n) s
