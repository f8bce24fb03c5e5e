-- A run of a table's entries, and runs that have no entry in common.
use Prim.Native.Nat.{ℕ, ◌+◌, ◌*◌, ◌≤◌, ◌<◌, max}
use mathlib.Core.Path.{◌≡◌, refl, sym, ◌∙◌}
use mathlib.Core.Bool.{Bool, true, false, ◌||◌}
use native.Mathlib.Omega.{arith}
use native.Mathlib.Decide.{ℕ_discrete}
use native.Mathlib.Numerals.{add-one}
use lib.Dec.{eqb, leb}
use borrow.Author.Tests.{eq-eqb, ne_eqb, le-leb}
use Rattle.history.specs.Image.{Table, count, module_entries}
use Rattle.writer_spec.specs.All.{all_below, all_none, all_more, all_true, all_false}
use Rattle.writer_spec.specs.Runs.{run_pointer, run_length, runs_meet_not, is_run, runs_apart}

module _ (F : ℕ → ℕ) where
  module _ (run : ℕ) where
    -- the tests that a loop makes of module entry j
    abbrev pub is_run_at : Table → ℕ → Bool
    is_run_at t j = is_run F t (run_pointer F run j) (run_length F run j)

    abbrev pub meets_not_at : (pointer length : ℕ) → ℕ → Bool
    meets_not_at pointer length i = runs_meet_not (run_pointer F run i) (run_length F run i) pointer length

    abbrev pub meets_none_at : ℕ → Bool
    meets_none_at j = all_below j (meets_not_at (run_pointer F run j) (run_length F run j))

    -- no two of the first j runs meet, and all of them end at `end` or before
    pub record RunsSoFar (j end : ℕ) : Type 0 where
      pub apart : all_below j meets_none_at ≡ true
      pub ended : (i : ℕ) → i < j → (run_length F run i ≡ 0 → ⊥) → run_pointer F run i + 8 * run_length F run i ≤ end

    pub no_runs : RunsSoFar 0 0
    no_runs = record { apart = all_none meets_none_at; ended = λ i l some. omega arith }

    meets-empty : (p n q m : ℕ) → m ≡ 0 → runs_meet_not p n q m ≡ true
    unfolding runs_meet_not
    meets-empty p n q m none = go (eqb n 0)
      where
        go : (b : Bool) → (b || (eqb m 0 || (leb (p + 8 * n) q || leb (q + 8 * m) p))) ≡ true
        go true = refl
        go false = rw (eq-eqb m 0 none)

    meets-past : (p n q m : ℕ) → ((n ≡ 0 → ⊥) → p + 8 * n ≤ q) → runs_meet_not p n q m ≡ true
    unfolding runs_meet_not
    meets-past p n q m past = go (ℕ_discrete n 0) (eqb m 0)
      where
        go : Dec (n ≡ 0) → (b : Bool) → (eqb n 0 || (b || (leb (p + 8 * n) q || leb (q + 8 * m) p))) ≡ true
        go (yes none) b = rw (eq-eqb n 0 none)
        go (no some) true = rw (ne_eqb n 0 some)
        go (no some) false = rw (ne_eqb n 0 some, le-leb (p + 8 * n) q (past some))

    module _ {all j end p m : ℕ} (so_far : RunsSoFar j end) (l : j < all) (pointed : p ≡ run_pointer F run j) (counted : m ≡ run_length F run j) where
      one_more : {new : ℕ} → meets_none_at j ≡ true → end ≤ new → ((m ≡ 0 → ⊥) → p + 8 * m ≤ new) → RunsSoFar (j + 1) new
      one_more {new} clear grown ends =
          record {
            apart = rw add-one (all_more j meets_none_at clear so_far.apart);
            ended = λ i k some. go i (ℕ_discrete i j) k some;
          }
        where
          last : (run_length F run j ≡ 0 → ⊥) → run_pointer F run j + 8 * run_length F run j ≤ new
          last some = rw (← pointed, ← counted) (ends (λ z. some (sym counted ∙ z)))

          go : (i : ℕ) → Dec (i ≡ j) → i < j + 1 → (run_length F run i ≡ 0 → ⊥) → run_pointer F run i + 8 * run_length F run i ≤ new
          go i (yes e) k some = rw e (last (λ z. some (rw e z)))
          go i (no other) k some = omega (arith, so_far.ended i (omega arith) some)

      pub run_none : m ≡ 0 → RunsSoFar (j + 1) end
      run_none none =
          one_more
          (all_true j (meets_not_at (run_pointer F run j) (run_length F run j))
          (λ i k. meets-empty (run_pointer F run i) (run_length F run i) (run_pointer F run j) (run_length F run j) (sym counted ∙ none)))
          (omega arith)
          (λ some. absurd (some none))

      pub run_past : {new : ℕ} → end ≤ p → new ≡ max end (p + 8 * m) → RunsSoFar (j + 1) new
      run_past {new} past grown =
          one_more
          (all_true j (meets_not_at (run_pointer F run j) (run_length F run j))
          (λ i k. meets-past (run_pointer F run i) (run_length F run i) (run_pointer F run j) (run_length F run j)
          (λ some. rw (← pointed) (omega (arith, so_far.ended i k some)))))
          (omega arith)
          (λ some. omega arith)

      pub run-clear
          : {new : ℕ} {answer : Bool} → answer ≡ all_below j (meets_not_at p m) → answer ≡ true → new ≡ max end (p + 8 * m)
          → RunsSoFar (j + 1) new
      run-clear said held grown =
          one_more (rw (← pointed, ← counted, ← said) held) (omega arith) (λ some. omega arith)

      pub run-meets
          : {answer : Bool} → answer ≡ all_below j (meets_not_at p m) → answer ≡ false → all ≡ count F module_entries → false ≡ runs_apart F run
      unfolding runs_apart
      run-meets said failed every =
          sym (all_false (count F module_entries) meets_none_at j (omega arith) (rw (← pointed, ← counted, ← said) failed))

    pub runs_end : {j end : ℕ} → RunsSoFar j end → j ≡ count F module_entries → true ≡ runs_apart F run
    unfolding runs_apart
    runs_end so_far every = sym (rw every at so_far.apart)
