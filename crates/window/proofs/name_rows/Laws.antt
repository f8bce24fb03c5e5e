-- From the code's loops over rows to the order of the names that they begin with.
use Rattle.std.specs.declared.cmp.Ordering.TheVariants.{Less, Equal, Greater}
use Rattle.std.proofs.Common.{◌≡◌, ℕ, zero, suc, ◌+◌, ◌<◌, ◌≤◌, ◌≢◌, List, length, get_or, drop, sym, refl, ap, ◌∙◌, add-one, arith, drop_of_length-le, drop-cons, le-ltb, lt-ltb, eq-eqb, ne_eqb}
use native.Mathlib.Decide.{ℕ_discrete, dec_lt}
use Rattle.window.specs.Word.{word_in, high_word_in}
use Rattle.window.specs.Name.{order_of, turned, order_turned, ended, NonZero}
use Rattle.window.proofs.name.Laws.{same_bytes, high_differs}

-- the names that two rows begin with from place i on

module _ (a b : List ℕ) (i : ℕ) where
  -- a byte that is less decides, the end of a name too, which is a zero or the row's end
  pub ended_less : i < length a → i < length b → get_or a i 0 < get_or b i 0 → Less ≡ order_of (ended (drop i a)) (ended (drop i b))
  unfolding order_of ended
  ended_less l m h = go (ℕ_discrete (get_or a i 0) 0)
    where
      go : Dec (get_or a i 0 ≡ 0) → Less ≡ order_of (ended (drop i a)) (ended (drop i b))
      go (yes e) = rw (drop-cons a i 0 l, drop-cons b i 0 m) (simp (eq-eqb _ _ e, ne_eqb (get_or b i 0) 0 (λ f. omega arith)))
      go (no n) = rw (drop-cons a i 0 l, drop-cons b i 0 m) (simp (ne_eqb _ _ n, ne_eqb (get_or b i 0) 0 (λ f. omega arith), lt-ltb _ _ h))

  pub ended_on
      : i < length a → i < length b → get_or a i 0 ≡ get_or b i 0 → get_or a i 0 ≢ 0
      → order_of (ended (drop (i + 1) a)) (ended (drop (i + 1) b)) ≡ order_of (ended (drop i a)) (ended (drop i b))
  unfolding order_of ended
  ended_on l m e n =
      rw (drop-cons a i 0 l, drop-cons b i 0 m, add-one)
      (simp (ne_eqb _ _ n, ne_eqb (get_or b i 0) 0 (λ f. n (e ∙ f)), le-ltb (get_or a i 0) (get_or b i 0) (omega arith), le-ltb (get_or b i 0) (get_or a i 0) (omega arith)))

  pub ended-zero
      : i < length a → i < length b → get_or a i 0 ≡ get_or b i 0 → get_or a i 0 ≡ 0 → Equal ≡ order_of (ended (drop i a)) (ended (drop i b))
  unfolding order_of ended
  ended-zero l m e z = rw (drop-cons a i 0 l, drop-cons b i 0 m) (simp (eq-eqb _ _ z, eq-eqb (get_or b i 0) 0 (sym e ∙ z)))

  pub ended_end : length a ≤ i → length b ≤ i → Equal ≡ order_of (ended (drop i a)) (ended (drop i b))
  unfolding order_of ended
  ended_end l m = rw (drop_of_length-le a l, drop_of_length-le b m)

pub ended-more
    : (a b : List ℕ) (i : ℕ) → i < length a → i < length b → get_or b i 0 < get_or a i 0 → Greater ≡ order_of (ended (drop i a)) (ended (drop i b))
ended-more a b i l m h = ap turned (ended_less b a i m l h) ∙ sym (order_turned (ended (drop i b)) (ended (drop i a)))

ended-first
    : (a b : List ℕ) (i j : ℕ) → j ≡ i + 1 → i < length a → i < length b → get_or a i 0 ≤ get_or b i 0
    → (get_or a i 0 ≡ get_or b i 0 → get_or a i 0 ≢ 0)
    → (get_or a i 0 ≡ get_or b i 0 → Less ≡ order_of (ended (drop j a)) (ended (drop j b))) → Less ≡ order_of (ended (drop i a)) (ended (drop i b))
ended-first a b i j e l m h n rest = go (dec_lt (get_or a i 0) (get_or b i 0))
  where
    go : Dec (get_or a i 0 < get_or b i 0) → Less ≡ order_of (ended (drop i a)) (ended (drop i b))
    go (yes y) = ended_less a b i l m y
    go (no k) =
        let s : get_or a i 0 ≡ get_or b i 0 = omega arith in
        rw e at (rest s) ∙ ended_on a b i l m s (n s)

nonzero_at : (row : List ℕ) (i : ℕ) → NonZero row i → (k : ℕ) → k < 4 → get_or row (i + k) 0 ≢ 0
nonzero_at row i h zero l = let z : i + 0 ≡ i = omega arith in rw z h.at0
nonzero_at row i h (suc zero) l = h.at1
nonzero_at row i h (suc (suc zero)) l = h.at2
nonzero_at row i h (suc (suc (suc zero))) l = h.at3
nonzero_at row i h (suc (suc (suc (suc k)))) l = absurd (omega arith)

module _ (a b : List ℕ) (i : ℕ) (small-a : (k : ℕ) → get_or a k 0 < 256) (small_b : (k : ℕ) → get_or b k 0 < 256) where
  -- the same word in both, without a zero
  pub ended-word
      : i + 4 ≤ length a → i + 4 ≤ length b → word_in a i ≡ word_in b i → NonZero a i
      → order_of (ended (drop (i + 4) a)) (ended (drop (i + 4) b)) ≡ order_of (ended (drop i a)) (ended (drop i b))
  unfolding word_in
  ended-word l m e n =
      let s = same_bytes a b i small-a small_b i (i + 1) (i + 2) (i + 3) e in
      let q₂ : i + 1 + 1 ≡ i + 2 = omega arith in
      let q₃ : i + 2 + 1 ≡ i + 3 = omega arith in
      let q₄ : i + 3 + 1 ≡ i + 4 = omega arith in
      rw q₄ at (ended_on a b (i + 3) (omega arith) (omega arith) s.3 n.at3)
      ∙ rw q₃ at (ended_on a b (i + 2) (omega arith) (omega arith) s.2 n.at2)
      ∙ rw q₂ at (ended_on a b (i + 1) (omega arith) (omega arith) s.1 n.at1)
      ∙ ended_on a b i (omega arith) (omega arith) s.0 n.at0

  -- not the same: the numbers, highest byte first, stand in the order of the bytes, and of the names if one of them has no zero there
  ended-high
      : i + 4 ≤ length a → i + 4 ≤ length b → high_word_in a i < high_word_in b i
      → ((k : ℕ) → k < 4 → get_or a (i + k) 0 ≡ get_or b (i + k) 0 → get_or a (i + k) 0 ≢ 0)
      → Less ≡ order_of (ended (drop i a)) (ended (drop i b))
  unfolding high_word_in
  ended-high l m h n =
      let a₁ = small-a (i + 1) in
      let a₂ = small-a (i + 2) in
      let a₃ = small-a (i + 3) in
      let b₁ = small_b (i + 1) in
      let b₂ = small_b (i + 2) in
      let b₃ = small_b (i + 3) in
      let z : i + 0 ≡ i = omega arith in
      ended-first a b i (i + 1) refl (omega arith) (omega arith) (omega arith) (rw z at (n 0 (omega arith)))
      (λ e₀. ended-first a b (i + 1) (i + 2) (omega arith) (omega arith) (omega arith) (omega arith) (n 1 (omega arith))
      (λ e₁. ended-first a b (i + 2) (i + 3) (omega arith) (omega arith) (omega arith) (omega arith) (n 2 (omega arith))
      (λ e₂. ended_less a b (i + 3) (omega arith) (omega arith) (omega arith))))

  pub ended_before
      : i + 4 ≤ length a → i + 4 ≤ length b → word_in a i ≢ word_in b i → high_word_in a i ≤ high_word_in b i → NonZero a i
      → Less ≡ order_of (ended (drop i a)) (ended (drop i b))
  ended_before l m n h z = ended-high l m (omega (arith, high_differs a b i small-a small_b n)) (λ k j e. nonzero_at a i z k j)

pub ended-after
    : (a b : List ℕ) (i : ℕ) → ((k : ℕ) → get_or a k 0 < 256) → ((k : ℕ) → get_or b k 0 < 256) → i + 4 ≤ length a → i + 4 ≤ length b
    → high_word_in b i < high_word_in a i → NonZero a i → Greater ≡ order_of (ended (drop i a)) (ended (drop i b))
ended-after a b i small-a small_b l m h z =
    ap turned (ended-high b a i small_b small-a m l h (λ k j e f. nonzero_at a i z k j (sym e ∙ f))) ∙ sym (order_turned (ended (drop i b)) (ended (drop i a)))
