-- Where a batch begins and ends, the imports of three tables, and batches that differ.
use Rattle.std.specs.List.{range_with_len, list_any}
use Prim.Native.Nat.{ℕ, zero, suc, ◌+◌, ◌-◌, ◌^◌, ◌≤◌, ◌<◌, min, max}
use mathlib.Core.Path.{◌≡◌, refl, sym, ◌∙◌, ap}
use mathlib.Core.List.{List}
use mathlib.Core.Bool.{Bool, true, false, not, ◌||◌}
use native.Mathlib.Omega.{arith}
use native.Mathlib.Decide.{ℕ_discrete, dec_lt}
use native.Mathlib.Numerals.{add-one}
use lib.Dec.{eqb}
use borrow.Author.Tests.{ne_eqb, lt-ltb, le-ltb}
use Rattle.history.specs.Image.{Table, externals, named_imports, indexed_imports, count, end_mark}
use Rattle.writer_spec.specs.All.{all_below, all_none, all_more, all_true, all_false}
use Rattle.writer_spec.specs.Description.{file_of}
use Rattle.writer_spec.specs.Batches.{batch_ends, is_batch, batch_of, import_count, import_batch, batches_apart}
use Rattle.writer.proofs.Laws.{Bytes, word_fits}

module _ (F : ℕ → ℕ) where
  -- an end mark among n entries from e on is one among those that are in the table
  pub ends_among
      : (n e : ℕ) → list_any (λ i. not (eqb (end_mark F i) 0)) (range_with_len e (min n (count F externals - e))) ≡ batch_ends F n e
  unfolding batch_ends
  ends_among zero e = let none : min 0 (count F externals - e) ≡ 0 = omega arith in rw none
  ends_among (suc n) e = elim (dec_lt e (count F externals)) [
    | yes l ↦
        let more : min (suc n) (count F externals - e) ≡ suc (min n (count F externals - (e + 1))) = omega arith in
        rw (more, lt-ltb e (count F externals) l) (ap (λ b. not (eqb (end_mark F e) 0) || b) (ends_among n (e + 1) ∙ rw add-one))
    | no m ↦ let none : min (suc n) (count F externals - e) ≡ 0 = omega arith in rw (none, le-ltb e (count F externals) (omega arith))
  ]

  -- the test that a loop makes of entry i of a table of imports
  abbrev pub is_batch_at : Table → ℕ → Bool
  is_batch_at t i = is_batch F (batch_of F t i)

  -- the tests that a loop makes of import k
  abbrev pub differs_at : (batch i : ℕ) → Bool
  differs_at batch i = not (eqb (import_batch F i) batch)

  abbrev pub new_at : ℕ → Bool
  new_at k = all_below k (differs_at (import_batch F k))

  differs_at_lem : (batch i : ℕ) {b : ℕ} → b ≡ import_batch F i → (b ≡ batch → ⊥) → differs_at batch i ≡ true
  differs_at_lem batch i read other = rw (ne_eqb (import_batch F i) batch (λ e. other (read ∙ e)))

  -- the first k imports have each a batch of their own, below `end`
  pub record BatchesSoFar (k end : ℕ) : Type 0 where
    pub apart : all_below k new_at ≡ true
    pub below : (i : ℕ) → i < k → import_batch F i < end

  pub no_batches : BatchesSoFar 0 0
  no_batches = record { apart = all_none new_at; below = λ i l. omega arith }

  module _ {all k end b : ℕ} (so_far : BatchesSoFar k end) (l : k < all) (read : b ≡ import_batch F k) where
    one_more : {new : ℕ} → new_at k ≡ true → new ≡ max end (b + 1) → BatchesSoFar (k + 1) new
    one_more {new} clear grown =
        record {
          apart = rw add-one (all_more k new_at clear so_far.apart);
          below = λ i m. go i (ℕ_discrete i k) m;
        }
      where
        go : (i : ℕ) → Dec (i ≡ k) → i < k + 1 → import_batch F i < new
        go i (yes e) m = rw (e, ← read) (omega arith)
        go i (no other) m = omega (arith, so_far.below i (omega arith))

    pub batch-past : {new : ℕ} → end ≤ b → new ≡ max end (b + 1) → BatchesSoFar (k + 1) new
    batch-past past grown =
        one_more
        (all_true k (differs_at (import_batch F k)) (λ i m. differs_at_lem (import_batch F k) i refl (λ e. omega (arith, so_far.below i m, e, read))))
        grown

    pub batch-new
        : {new : ℕ} {answer : Bool} → answer ≡ all_below k (differs_at b) → answer ≡ true → new ≡ max end (b + 1)
        → BatchesSoFar (k + 1) new
    batch-new said held grown = one_more (rw (← read, ← said) held) grown

    pub batch_again
        : {answer : Bool} → answer ≡ all_below k (differs_at b) → answer ≡ false → all ≡ import_count F → false ≡ batches_apart F
    unfolding batches_apart
    batch_again said failed every =
        sym (all_false (import_count F) new_at k (omega arith) (rw (← read, ← said) failed))

  pub batches_end : {k end : ℕ} → BatchesSoFar k end → k ≡ import_count F → true ≡ batches_apart F
  unfolding batches_apart
  batches_end so_far every = sym (rw every at so_far.apart)

-- the number of an import in the third table
pub anonymous_fits
    : (b : List ℕ) → Bytes b → {named indexed i : ℕ} → named ≡ count (file_of b) named_imports → indexed ≡ count (file_of b) indexed_imports
    → i < import_count (file_of b) → i - (named + indexed) < 2 ^ 32
unfolding import_count count
anonymous_fits b small counted counted2 l = omega (arith, word_fits b small 0x114, counted, counted2)
