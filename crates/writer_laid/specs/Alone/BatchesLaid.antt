-- The test of batches says what a well-laid image asks of them: each import has a batch, and no two share one.
use Prim.Native.Nat.{ℕ, zero, suc, ◌+◌, ◌-◌, ◌*◌, ◌/◌, ◌%◌, ◌≤◌, ◌<◌}
use Rattle.std.specs.Prelude.{◌≡◌, ◌≢◌, ◌⊎◌, true, eqb, ltb, leb}
use Rattle.std.proofs.Math.Path.{refl}
use Rattle.std.proofs.Common.{sym, ap, ◌∙◌}
use Rattle.std.proofs.Math.Logic.{inl, inr}
use Rattle.std.proofs.Math.Bool.{Bool, not}
use native.Mathlib.Omega.{arith}
use Rattle.std.proofs.Math.Decide.{ℕ_discrete, dec_lt}
use borrow.Author.Tests.{eqb-true, eqb-false, ltb-true, leb-true, eq-eqb, ne_eqb, lt-ltb, le-ltb, le-leb, not-true}
use Rattle.window.specs.Tests.{both, also}
use Rattle.linker_spec.specs.Relocation.{batch_limit}
use Rattle.history.specs.Image.{Table, externals, named_imports, indexed_imports, anonymous_imports, start, count, entry, end_mark}
use Rattle.history.specs.Imports.{Import, named, indexed, anonymous, IsImport, import_entry, batch, Batch, BatchOf}
use Rattle.writer_spec.specs.All.{all_below, all-at, all_true}
use Rattle.writer_spec.specs.Batches.{batch_ends, batch_begins, batch_entry, is_batch, batch_of, batches_in, import_count, import_batch, batches_apart, batches_good}
use Rattle.writer_laid.specs.Cases.{contradiction, neither_below, or_cases, or_left, or_right, false_not}

module _ (F : ℕ → ℕ) where
  -- entry f is the first with an end mark from e on
  record FirstEnd (e f : ℕ) : Type 0 where
    from : e ≤ f
    in_table : f < count F externals
    unmarked : (j : ℕ) → e ≤ j → j < f → end_mark F j ≡ 0
    marked : end_mark F f ≢ 0

  ends_means : (n e : ℕ) → batch_ends F n e ≡ true → (f : ℕ) × (f < e + n) × FirstEnd e f
  unfolding batch_ends
  ends_means zero e h = contradiction h
  ends_means (suc n) e h =
      let tests = both (ltb e (count F externals)) _ h in
      elim (ℕ_discrete (end_mark F e) 0) [
        | yes unmarked ↦
            let found = ends_means n (suc e) (rw (eq-eqb (end_mark F e) 0 unmarked) at tests.1) in
            let rest = found.2 in (
              found.0,
              omega (arith, found.1),
              record {
                from = omega (arith, rest.from);
                in_table = rest.in_table;
                unmarked = λ j l m. elim (ℕ_discrete j e) [ yes same ↦ rw same unmarked | no other ↦ rest.unmarked j (omega arith) m ];
                marked = rest.marked;
              },
            )
        | no marked ↦ (
          e,
          omega arith,
          record {
            from = omega arith;
            in_table = ltb-true e (count F externals) tests.0;
            unmarked = λ j l m. absurd (omega arith);
            marked = marked;
          },
        )
      ]

  means_ends : (n e f : ℕ) → f < e + n → FirstEnd e f → batch_ends F n e ≡ true
  unfolding batch_ends
  means_ends zero e f l end = absurd (omega (arith, end.from))
  means_ends (suc n) e f l end =
      also (lt-ltb e (count F externals) (omega (arith, end.from, end.in_table))) (
      elim (ℕ_discrete f e) [
        | yes same ↦ or_left _ (false_not (ne_eqb (end_mark F e) 0 (rw same at end.marked)))
        | no later ↦
            or_right (not (eqb (end_mark F e) 0))
            (means_ends n (suc e) f (omega arith)
            record {
              from = omega (arith, end.from);
              in_table = end.in_table;
              unmarked = λ j m k. end.unmarked j (omega arith) k;
              marked = end.marked;
            })
      ]
      )

  -- entry e is the first of the table, or comes right after an end mark
  abbrev Begins : ℕ → Type 0
  Begins e = (e ≡ 0) ⊎ ((d : ℕ) × (e ≡ suc d) × (end_mark F d ≢ 0))

  begins_means : (e : ℕ) → batch_begins F e ≡ true → Begins e
  unfolding batch_begins
  begins_means zero h = inl refl
  begins_means (suc d) h =
      let same : suc d - 1 ≡ d = omega arith in
      or_cases (eqb (suc d) 0) (λ first. absurd (omega (arith, eqb-true (suc d) 0 first)))
      (λ after. inr (d, refl, rw same at (eqb-false (end_mark F (suc d - 1)) 0 (not-true (eqb (end_mark F (suc d - 1)) 0) after))))
      h

  means_begins : (e : ℕ) → Begins e → batch_begins F e ≡ true
  unfolding batch_begins
  means_begins e (inl first) = or_left _ (eq-eqb e 0 first)
  means_begins e (inr (d, after, marked)) =
      let same : e - 1 ≡ d = omega arith in
      or_right (eqb e 0) (false_not (ne_eqb (end_mark F (e - 1)) 0 (rw same marked)))

  -- offset b is that of a batch from entry e to entry f
  record BatchAt (b e f : ℕ) : Type 0 where
    there : b ≢ 0
    at_entry : b ≡ entry F externals e
    as_batch : Batch F e f
    few : f < e + batch_limit

  is_batch_means : (b : ℕ) → is_batch F b ≡ true → (e : ℕ) × (f : ℕ) × BatchAt b e f
  unfolding is_batch batch_entry entry
  is_batch_means b h =
      let e = (b - start F externals) / 12 in
      let first = both (not (eqb b 0)) _ h in
      let second = both (leb (start F externals) b) _ first.1 in
      let third = both (eqb ((b - start F externals) % 12) 0) _ second.1 in
      let fourth = both (batch_begins F e) (batch_ends F batch_limit e) third.1 in
      let after = leb-true (start F externals) b second.0 in
      let aligned = eqb-true ((b - start F externals) % 12) 0 third.0 in
      let found = ends_means batch_limit e fourth.1 in
      let end = found.2 in (
        e,
        found.0,
        record {
          there = eqb-false b 0 (not-true (eqb b 0) first.0);
          at_entry = omega arith;
          as_batch =
              record { begins = begins_means e fourth.0; ordered = end.from; inside = end.in_table; goes_on = end.unmarked; ends = end.marked };
          few = found.1;
        },
      )

  means_is_batch : (b e f : ℕ) → BatchAt b e f → is_batch F b ≡ true
  unfolding is_batch batch_entry entry
  means_is_batch b e f at =
      let place : b ≡ start F externals + e * 12 = at.at_entry in
      let same : (b - start F externals) / 12 ≡ e = omega arith in
      let run = at.as_batch in
      also (false_not (ne_eqb b 0 at.there))
      (also (le-leb (start F externals) b (omega arith))
      (also (eq-eqb ((b - start F externals) % 12) 0 (omega arith))
      (rw same
      (also (means_begins e run.begins)
      (means_ends batch_limit e f at.few record { from = run.ordered; in_table = run.inside; unmarked = run.goes_on; marked = run.ends })))))

  -- each import of a table has a batch
  abbrev EachBatch : Table → Type 0
  EachBatch t = (i : ℕ) → i < count F t → (e : ℕ) × (f : ℕ) × BatchAt (batch_of F t i) e f

  in_each : (t : Table) → batches_in F t ≡ true → EachBatch t
  unfolding batches_in
  in_each t h i l = is_batch_means (batch_of F t i) (all-at (count F t) (λ j. is_batch F (batch_of F t j)) h i l)

  each_in : (t : Table) → EachBatch t → batches_in F t ≡ true
  unfolding batches_in
  each_in t each =
      all_true (count F t) (λ j. is_batch F (batch_of F t j))
      (λ i l. let found = each i l in means_is_batch (batch_of F t i) found.0 found.1 found.2)

  -- an import's number among the three tables
  abbrev position : Import → ℕ
  position (named i) = i
  position (indexed i) = count F named_imports + i
  position (anonymous i) = count F named_imports + count F indexed_imports + i

  position-low : (i : Import) → IsImport F i → position i < import_count F
  unfolding import_count
  position-low (named i) l = omega arith
  position-low (indexed i) l = omega arith
  position-low (anonymous i) l = omega arith

  position_tells : (i k : Import) → IsImport F i → IsImport F k → position i ≡ position k → i ≡ k
  position_tells (named i) (named k) l m same = ap named same
  position_tells (named i) (indexed k) l m same = absurd (omega arith)
  position_tells (named i) (anonymous k) l m same = absurd (omega arith)
  position_tells (indexed i) (named k) l m same = absurd (omega arith)
  position_tells (indexed i) (indexed k) l m same = ap indexed (omega arith)
  position_tells (indexed i) (anonymous k) l m same = absurd (omega arith)
  position_tells (anonymous i) (named k) l m same = absurd (omega arith)
  position_tells (anonymous i) (indexed k) l m same = absurd (omega arith)
  position_tells (anonymous i) (anonymous k) l m same = ap anonymous (omega arith)

  position-batch : (i : Import) → IsImport F i → import_batch F (position i) ≡ batch F i
  unfolding import_batch batch import_entry batch_of
  position-batch (named i) l = rw (lt-ltb i (count F named_imports) l)
  position-batch (indexed i) l =
      let same : count F named_imports + i - count F named_imports ≡ i = omega arith in
      rw (
        le-ltb (count F named_imports + i) (count F named_imports) (omega arith),
        lt-ltb (count F named_imports + i) (count F named_imports + count F indexed_imports) (omega arith),
        same,
      )
  position-batch (anonymous i) l =
      let before = count F named_imports + count F indexed_imports in
      let same : before + i - before ≡ i = omega arith in
      rw (le-ltb (before + i) (count F named_imports) (omega arith), le-ltb (before + i) before (omega arith), same)

  numbered : (n : ℕ) → n < import_count F → (i : Import) × IsImport F i × (position i ≡ n)
  unfolding import_count
  numbered n l =
      elim (dec_lt n (count F named_imports)) [
        | yes is_named ↦ (named n, is_named, refl)
        | no past ↦
            elim (dec_lt n (count F named_imports + count F indexed_imports)) [
              | yes is-indexed ↦ (indexed (n - count F named_imports), omega arith, omega arith)
              | no over ↦ (anonymous (n - (count F named_imports + count F indexed_imports)), omega arith, omega arith)
            ]
      ]

  -- what a well-laid image asks of its batches
  abbrev EachImport : Type 0
  EachImport = (i : Import) → IsImport F i → (e : ℕ) × (f : ℕ) × BatchOf F i e f

  abbrev OwnBatch : Type 0
  OwnBatch = (i k : Import) → IsImport F i → IsImport F k → batch F i ≡ batch F k → i ≡ k

  apart-at : batches_apart F ≡ true → (i k : ℕ) → i < k → k < import_count F → import_batch F i ≢ import_batch F k
  unfolding batches_apart
  apart-at h i k l m same =
      let differs : ℕ → ℕ → Bool = λ x j. not (eqb (import_batch F j) (import_batch F x)) in
      let test = all-at k (differs k) (all-at (import_count F) (λ x. all_below x (differs x)) h k m) i l in
      eqb-false (import_batch F i) (import_batch F k) (not-true (eqb (import_batch F i) (import_batch F k)) test) same

  apart-own : batches_apart F ≡ true → OwnBatch
  apart-own h i k l m same =
      let equal : import_batch F (position i) ≡ import_batch F (position k) = position-batch i l ∙ same ∙ sym (position-batch k m) in
      position_tells i k l m
      (neither_below (position i) (position k)
      (λ before. apart-at h (position i) (position k) before (position-low k m) equal)
      (λ after. apart-at h (position k) (position i) after (position-low i l) (sym equal)))

  number_tells : OwnBatch → (i k : ℕ) → i < import_count F → k < import_count F → import_batch F i ≡ import_batch F k → i ≡ k
  number_tells own i k l m same =
      let former = numbered i l in
      let latter = numbered k m in
      let here : import_batch F i ≡ batch F former.0 = rw former.2 at (position-batch former.0 former.1) in
      let there : import_batch F k ≡ batch F latter.0 = rw latter.2 at (position-batch latter.0 latter.1) in
      let one = own former.0 latter.0 former.1 latter.1 (sym here ∙ same ∙ there) in
      sym former.2 ∙ ap position one ∙ latter.2

  own-apart : OwnBatch → batches_apart F ≡ true
  unfolding batches_apart
  own-apart own =
      let differs : ℕ → ℕ → Bool = λ x j. not (eqb (import_batch F j) (import_batch F x)) in
      all_true (import_count F) (λ k. all_below k (differs k)) (λ k m. all_true k (differs k) (λ i l. false_not (ne_eqb _ _ (differ i k l m))))
    where
      differ : (i k : ℕ) → i < k → k < import_count F → import_batch F i ≢ import_batch F k
      differ i k l m same = let one = number_tells own i k (omega arith) m same in omega arith

  record BatchesTested : Type 0 where
    named_batches : batches_in F named_imports ≡ true
    indexed_batches : batches_in F indexed_imports ≡ true
    anonymous_batches : batches_in F anonymous_imports ≡ true
    all_apart : batches_apart F ≡ true

  batches_tested : batches_good F ≡ true → BatchesTested
  unfolding batches_good
  batches_tested h =
      let first = both (batches_in F named_imports) _ h in
      let second = both (batches_in F indexed_imports) _ first.1 in
      let third = both (batches_in F anonymous_imports) _ second.1 in
      record { named_batches = first.0; indexed_batches = second.0; anonymous_batches = third.0; all_apart = third.1 }

  -- the batch of an import, as the test sees it
  batch-at : (i : Import) (b e f : ℕ) → batch F i ≡ b → BatchAt b e f → BatchOf F i e f
  batch-at i b e f same at =
      record { nonzero = rw same at.there; first = same ∙ at.at_entry; run = at.as_batch; short = at.few }

  at-batch : (i : Import) (b e f : ℕ) → batch F i ≡ b → BatchOf F i e f → BatchAt b e f
  at-batch i b e f same of =
      record { there = rw same at of.nonzero; at_entry = sym same ∙ of.first; as_batch = of.run; few = of.short }

  pub good_batches : batches_good F ≡ true → EachImport
  unfolding batch import_entry batch_of
  good_batches h (named i) l =
      let found = in_each named_imports (batches_tested h).named_batches i l in
      (found.0, found.1, batch-at (named i) (batch_of F named_imports i) found.0 found.1 refl found.2)
  good_batches h (indexed i) l =
      let found = in_each indexed_imports (batches_tested h).indexed_batches i l in
      (found.0, found.1, batch-at (indexed i) (batch_of F indexed_imports i) found.0 found.1 refl found.2)
  good_batches h (anonymous i) l =
      let found = in_each anonymous_imports (batches_tested h).anonymous_batches i l in
      (found.0, found.1, batch-at (anonymous i) (batch_of F anonymous_imports i) found.0 found.1 refl found.2)

  pub good_own-batch : batches_good F ≡ true → OwnBatch
  good_own-batch h = apart-own (batches_tested h).all_apart

  each_of
      : EachImport → (t : Table) (make : ℕ → Import) → ((i : ℕ) → i < count F t → IsImport F (make i))
      → ((i : ℕ) → batch F (make i) ≡ batch_of F t i) → EachBatch t
  each_of each t make is-import same i l =
      let found = each (make i) (is-import i l) in
      (found.0, found.1, at-batch (make i) (batch_of F t i) found.0 found.1 (same i) found.2)

  pub batches_good_lem : EachImport → OwnBatch → batches_good F ≡ true
  unfolding batches_good batch import_entry batch_of
  batches_good_lem each own =
      also (each_in named_imports (each_of each named_imports named (λ i l. l) (λ i. refl)))
      (also (each_in indexed_imports (each_of each indexed_imports indexed (λ i l. l) (λ i. refl)))
      (also (each_in anonymous_imports (each_of each anonymous_imports anonymous (λ i l. l) (λ i. refl))) (own-apart own)))
