-- The test of runs says what a well-laid image asks of them: each is a run of its table, and no import lies in two.
use Rattle.std.specs.Prelude.{ℕ, ◌+◌, ◌-◌, ◌*◌, ◌/◌, ◌%◌, ◌≤◌, ◌<◌, max, ◌≡◌, ◌⊎◌, Bool, true, ◌&&◌, eqb}
use Rattle.std.proofs.Math.Path.{refl, ap}
use Rattle.std.proofs.Common.{sym, ◌∙◌, arith}
use Rattle.std.proofs.Math.Logic.{inl, inr}
use Rattle.std.proofs.Math.Decide.{ℕ_discrete, dec_le}
use Rattle.std.proofs.Math.Dec.{leb}
use borrow.Author.Tests.{eqb-true, leb-true, eq-eqb, le-leb}
use Rattle.window.specs.Tests.{both, also}
use Rattle.history.specs.Image.{Table, module_entries, indexed_imports, anonymous_imports, start, count, entry}
use Rattle.history.specs.Imports.{Import, named, indexed, anonymous, import_table, IsImport, import_entry, run_start, run_count, InRun}
use Rattle.writer_spec.specs.All.{all_below, all-at, all_true}
use Rattle.writer_spec.specs.Runs.{indexed_run, anonymous_run, runs_meet_not, run_pointer, run_length, is_run, runs_inside, runs_apart, runs_good}
use Rattle.writer_laid.specs.Cases.{neither_below, or_cases, or_left, or_right}

module _ (F : ℕ → ℕ) where
  -- n entries from p on are entries of the table, from number k on; an empty run's pointer is free
  abbrev RunOf : Table → (p n : ℕ) → Type 0
  RunOf t p n = (n ≡ 0) ⊎ ((k : ℕ) × (p ≡ entry F t k) × (k + n ≤ count F t))

  -- entries of 8 bytes
  entry_wide : (t : Table) → t.width ≡ 8 → (k : ℕ) → entry F t k ≡ start F t + k * 8
  unfolding entry
  entry_wide t wide k = ap (λ width. start F t + k * width) wide

  is_run_means : (t : Table) → t.width ≡ 8 → (p n : ℕ) → is_run F t p n ≡ true → RunOf t p n
  unfolding is_run
  is_run_means t wide p n h =
      or_cases (eqb n 0) (λ empty. inl (eqb-true n 0 empty))
      (λ inside.
      let outer = both (leb (start F t) p) (eqb ((p - start F t) % 8) 0 && leb ((p - start F t) / 8 + n) (count F t)) inside in
      let inner = both (eqb ((p - start F t) % 8) 0) _ outer.1 in
      let after = leb-true (start F t) p outer.0 in
      let aligned = eqb-true ((p - start F t) % 8) 0 inner.0 in
      inr ((p - start F t) / 8, rw (entry_wide t wide) (omega arith), leb-true ((p - start F t) / 8 + n) (count F t) inner.1))
      h

  means_is_run : (t : Table) → t.width ≡ 8 → (p n : ℕ) → RunOf t p n → is_run F t p n ≡ true
  unfolding is_run
  means_is_run t wide p n (inl empty) = or_left _ (eq-eqb n 0 empty)
  means_is_run t wide p n (inr (k, at, inside)) =
      let place : p ≡ start F t + k * 8 = at ∙ entry_wide t wide k in
      or_right (eqb n 0)
      (also (le-leb (start F t) p (omega arith))
      (also (eq-eqb ((p - start F t) % 8) 0 (omega arith)) (le-leb ((p - start F t) / 8 + n) (count F t) (omega arith))))

  -- two runs of one table that have no entry in common lie apart
  runs_meet_not_lem
      : (t : Table) → t.width ≡ 8 → (p n q m : ℕ) → RunOf t p n → RunOf t q m
      → ((x : ℕ) → x < count F t → (a : ℕ) → a < n → entry F t x ≡ p + a * 8 → (b : ℕ) → b < m → entry F t x ≡ q + b * 8 → ⊥)
      → runs_meet_not p n q m ≡ true
  unfolding runs_meet_not
  runs_meet_not_lem t wide p n q m (inl empty) other apart = or_left _ (eq-eqb n 0 empty)
  runs_meet_not_lem t wide p n q m (inr (k, at, inside)) (inl empty) apart = or_right (eqb n 0) (or_left _ (eq-eqb m 0 empty))
  runs_meet_not_lem t wide p n q m (inr (k, at, inside)) (inr (j, there, within)) apart =
      let p-place : p ≡ start F t + k * 8 = at ∙ entry_wide t wide k in
      let q-place : q ≡ start F t + j * 8 = there ∙ entry_wide t wide j in
      elim (ℕ_discrete n 0) [
        | yes empty ↦ or_left _ (eq-eqb n 0 empty)
        | no some ↦
            or_right (eqb n 0) (
            elim (ℕ_discrete m 0) [
              | yes empty ↦ or_left _ (eq-eqb m 0 empty)
              | no more ↦
                  or_right (eqb m 0) (
                  elim (dec_le (p + 8 * n) q) [
                    | yes before ↦ or_left _ (le-leb (p + 8 * n) q before)
                    | no overlapping ↦
                        elim (dec_le (q + 8 * m) p) [
                          | yes after ↦ or_right (leb (p + 8 * n) q) (le-leb (q + 8 * m) p after)
                          | no meeting ↦
                              absurd (apart (max k j) (omega arith) (max k j - k) (omega arith) (rw (entry_wide t wide) (omega arith)) (max k j - j)
                              (omega arith) (rw (entry_wide t wide) (omega arith)))
                        ]
                  ]
                  )
            ]
            )
      ]

  -- an offset in both of two runs that lie apart
  runs_met : (p n q m a b : ℕ) → runs_meet_not p n q m ≡ true → a < n → b < m → p + a * 8 ≡ q + b * 8 → ⊥
  unfolding runs_meet_not
  runs_met p n q m a b h l k same =
      or_cases (eqb n 0) (λ empty. omega (arith, eqb-true n 0 empty))
      (or_cases (eqb m 0) (λ empty. omega (arith, eqb-true m 0 empty))
      (or_cases (leb (p + 8 * n) q) (λ before. omega (arith, leb-true (p + 8 * n) q before)) (λ after. omega (arith, leb-true (q + 8 * m) p after))))
      h

  -- the runs at r of the module entries, in a table
  module _ (t : Table) (wide : t.width ≡ 8) (r : ℕ) where
    -- each is a run of the table
    abbrev EachRun : Type 0
    EachRun = (j : ℕ) → j < count F module_entries → RunOf t (run_pointer F r j) (run_length F r j)

    -- entry x of the table lies in the run of module entry j
    abbrev InRunOf : (j x : ℕ) → Type 0
    InRunOf j x = (a : ℕ) × (a < run_length F r j) × (entry F t x ≡ run_pointer F r j + a * 8)

    -- no entry of the table lies in two
    abbrev NoneTwice : Type 0
    NoneTwice =
        (x : ℕ) → x < count F t → (j k : ℕ) → j < count F module_entries → k < count F module_entries → InRunOf j x → InRunOf k x → j ≡ k

    abbrev apart_test : (i j : ℕ) → Bool
    apart_test i j = runs_meet_not (run_pointer F r i) (run_length F r i) (run_pointer F r j) (run_length F r j)

    inside_each : runs_inside F t r ≡ true → EachRun
    unfolding runs_inside
    inside_each h j l =
        is_run_means t wide (run_pointer F r j) (run_length F r j)
        (all-at (count F module_entries) (λ k. is_run F t (run_pointer F r k) (run_length F r k)) h j l)

    each_inside : EachRun → runs_inside F t r ≡ true
    unfolding runs_inside
    each_inside each =
        all_true (count F module_entries) (λ k. is_run F t (run_pointer F r k) (run_length F r k))
        (λ j l. means_is_run t wide (run_pointer F r j) (run_length F r j) (each j l))

    apart-at : runs_apart F r ≡ true → (i j : ℕ) → i < j → j < count F module_entries → apart_test i j ≡ true
    unfolding runs_apart
    apart-at h i j l m = all-at j (λ k. apart_test k j) (all-at (count F module_entries) (λ k. all_below k (λ x. apart_test x k)) h j m) i l

    apart_none_twice : runs_apart F r ≡ true → NoneTwice
    apart_none_twice h x inside j k l m (a, low, here) (b, high, there) =
        neither_below j k
        (λ before. runs_met _ _ _ _ a b (apart-at h j k before m) low high (sym here ∙ there))
        (λ after. runs_met _ _ _ _ b a (apart-at h k j after l) high low (sym there ∙ here))

    none_twice_apart : EachRun → NoneTwice → runs_apart F r ≡ true
    unfolding runs_apart
    none_twice_apart each none =
        all_true (count F module_entries) (λ k. all_below k (λ x. apart_test x k))
        (λ j m.
        all_true j (λ i. apart_test i j)
        (λ i l.
        runs_meet_not_lem t wide (run_pointer F r i) (run_length F r i) (run_pointer F r j) (run_length F r j) (each i (omega arith)) (each j m)
        (λ x inside a low here b high there.
        let same = none x inside i j (omega arith) m (a, low, here) (b, high, there) in omega arith)))

  record RunsTested : Type 0 where
    indexed_inside : runs_inside F indexed_imports indexed_run ≡ true
    anonymous_inside : runs_inside F anonymous_imports anonymous_run ≡ true
    indexed_apart : runs_apart F indexed_run ≡ true
    anonymous_apart : runs_apart F anonymous_run ≡ true

  runs_tested : runs_good F ≡ true → RunsTested
  unfolding runs_good
  runs_tested h =
      let first = both (runs_inside F indexed_imports indexed_run) _ h in
      let second = both (runs_inside F anonymous_imports anonymous_run) _ first.1 in
      let third = both (runs_apart F indexed_run) _ second.1 in
      record { indexed_inside = first.0; anonymous_inside = second.0; indexed_apart = third.0; anonymous_apart = third.1 }

  -- what a well-laid image asks of its runs
  abbrev Runs : Type 0
  Runs =
      (j : ℕ) → j < count F module_entries → (i : Import) → (run_count F j i ≡ 0)
      ⊎ ((k : ℕ) × (run_start F j i ≡ entry F (import_table i) k) × (k + run_count F j i ≤ count F (import_table i)))

  abbrev OneRun : Type 0
  OneRun =
      (i : Import) → IsImport F i → (j k : ℕ) → j < count F module_entries → k < count F module_entries → InRun F j i → InRun F k i → j ≡ k

  pub good_runs : runs_good F ≡ true → Runs
  unfolding run_start run_count run_pointer run_length
  good_runs h j l (named i) = inl refl
  good_runs h j l (indexed i) = inside_each indexed_imports refl indexed_run (runs_tested h).indexed_inside j l
  good_runs h j l (anonymous i) = inside_each anonymous_imports refl anonymous_run (runs_tested h).anonymous_inside j l

  pub good_one-run : runs_good F ≡ true → OneRun
  unfolding InRun import_entry run_start run_count run_pointer run_length
  good_one-run h (named i) is-import j k l m (a, low, here) there = absurd (omega arith)
  good_one-run h (indexed i) is-import j k l m here there =
      apart_none_twice indexed_imports refl indexed_run (runs_tested h).indexed_apart i is-import j k l m here there
  good_one-run h (anonymous i) is-import j k l m here there =
      apart_none_twice anonymous_imports refl anonymous_run (runs_tested h).anonymous_apart i is-import j k l m here there

  pub runs_good_lem : Runs → OneRun → runs_good F ≡ true
  unfolding runs_good InRun import_entry run_start run_count run_pointer run_length
  runs_good_lem runs one =
      let indexed-each : EachRun indexed_imports refl indexed_run = λ j l. runs j l (indexed 0) in
      let anonymous-each : EachRun anonymous_imports refl anonymous_run = λ j l. runs j l (anonymous 0) in
      also (each_inside indexed_imports refl indexed_run indexed-each)
      (also (each_inside anonymous_imports refl anonymous_run anonymous-each)
      (also (none_twice_apart indexed_imports refl indexed_run indexed-each (λ i. one (indexed i)))
      (none_twice_apart anonymous_imports refl anonymous_run anonymous-each (λ i. one (anonymous i)))))
